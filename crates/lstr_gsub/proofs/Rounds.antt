-- The rounds over the subject without their bound, and what each turn of the loop makes of them.
-- Assumes nothing.
use Rattle.std.specs.Prelude.{Option, None, Some, Result, Ok, Err, not, nat_eq}
use Rattle.std.specs.Option.{option_eq}
use Prim.Native.Nat.{ℕ, zero, suc, ◌+◌, ◌-◌, ◌≤◌, ◌<◌}
use native.Mathlib.Omega.{arith}
use mathlib.Core.Path.{◌≡◌, refl, sym, ap, ap₂, subst, ◌∙◌, fun_ext}
use mathlib.Core.Bool.{Bool, true, false, true≢false}
use mathlib.Core.List.{List, [], ◌∷◌, ◌++◌}
use lib.ListN.{length, take, drop, length-drop}
use lib.Seq.{take_all}
use lib.Dec.{ltb}
use borrow.Author.Tests.{eq-eqb, ne_eqb, eqb-true, not-false, lt-ltb, le-ltb}
use Rattle.luck_text.specs.Bytes.{when◌then◌else◌, byte_at}
use Rattle.luck_text.proofs.Cases.{if_true, if_false}
use Rattle.luck_pattern.specs.Items.{Item, items}
use Rattle.luck_token.specs.Version.{is_version, rules_of}
use Rattle.luck_token.specs.declared.version.Rules.{Rules}
use Rattle.luck_replacement.specs.Replacement.{is_strict, pieces}
use Rattle.lstr_class.specs.Class.{class_of}
use Rattle.lstr_item.specs.Match.{Capture, Outcome, matched, failed, stopped, match}
use Rattle.lstr_write.specs.Replace.{Wrote, append, add_pieces}
use Rattle.lstr_gsub.specs.Gsub.{TrialResult, result, and_wrote, Rounds, Writer, ends_again, copy_byte, copy_rest, round, anchored_round, rounds_from, rounds, str_gsub, writer_of, gsub}
use Rattle.lstr_match.specs.Inner as attempts
use Rattle.lstr_match.specs.declared.outcome.Stop.{Stop}
use Rattle.lstr_write.specs.Stops.{number_of, kind_of_stop}
use Rattle.lstr_write.specs.Inner.{wrote_of, end_of, WroteAs}
use Rattle.lstr_write.specs.declared.stop.Stopped.{Stopped}
use Rattle.lstr_gsub.specs.Inner.{Reported, stopped_as, wrote_as, writer_by}
use Rattle.lstr_gsub.specs.declared.gsub.Trial.{Trial}
use Rattle.lstr_laws.proofs.Forward.{Onward, onward}
use Rattle.lstr_write.proofs.Outputs.{Upto, begins, length_so_far, goes_on}

-- ---- The law without the bound

module _ (in_class : ℕ → ℕ → Bool) (sub : List ℕ) (budget room : ℕ) (write : Writer) where
  -- the same rounds after v steps
  abbrev Same : ℕ → Rounds → Rounds → Type 0
  Same v a b = (s : ℕ) (last : Option ℕ) (out : List ℕ) (n : ℕ) → a s last out n v ≡ b s last out n v

  copy_same : (a b : Rounds) (s : ℕ) (last : Option ℕ) (out : List ℕ) (n v : ℕ) → Same v a b
      → copy_byte sub room a s last out n v ≡ copy_byte sub room b s last out n v
  unfolding copy_byte
  copy_same a b s last out n v h =
      ap (λ (k : List ℕ → TrialResult). when ltb s (length sub) then and_wrote (append room (byte_at sub s ∷ []) out) n v k else result 0 0 out n v)
      (fun_ext (λ now. h (s + 1) last now n))

  round_same : (a b : Rounds) (o : Outcome) (s u : ℕ) (last : Option ℕ) (out : List ℕ) (n : ℕ) → Onward in_class sub budget s (u + 1) o
      → ((v : ℕ) → u + 1 ≤ v → v ≤ budget → Same v a b) → round sub room write a o s last out n ≡ round sub room write b o s last out n
  unfolding round
  round_same a b (stopped number kind v) s u last out n p h = refl
  round_same a b (failed v) s u last out n p h = copy_same a b s last out n v (h v p.ends.0 p.ends.1)
  round_same a b (matched e cs v) s u last out n p h =
      let g = h v p.ends.1.0 p.ends.1.1 in
      ap₂ (λ (again : TrialResult) (k : List ℕ → TrialResult). when ends_again e last then again else and_wrote (write s e cs out) (n + 1) v k)
      (copy_same a b s last out n v g)
      (fun_ext (λ now. g e (Some e) now (n + 1)))

  module _ (is : List Item) where
    enough : (f g s : ℕ) (last : Option ℕ) (out : List ℕ) (n u : ℕ) → budget - u < f → budget - u < g
        → rounds_from in_class sub budget room write is f s last out n u ≡ rounds_from in_class sub budget room write is g s last out n u
    unfolding rounds_from
    enough zero g s last out n u h k = absurd (omega arith)
    enough (suc f) zero s last out n u h k = absurd (omega arith)
    enough (suc f) (suc g) s last out n u h k =
        round_same (rounds_from in_class sub budget room write is f) (rounds_from in_class sub budget room write is g) (match in_class sub budget is s 1 [] u) s u last out n
        (onward in_class sub budget is s u)
        (λ v low high s last out n. enough f g s last out n v (omega arith) (omega arith))

    pub one_round : (s : ℕ) (last : Option ℕ) (out : List ℕ) (n u : ℕ)
        → rounds in_class sub budget room write is s last out n u
        ≡ round sub room write (rounds in_class sub budget room write is) (match in_class sub budget is s 1 [] u) s last out n
    unfolding rounds rounds_from
    one_round s last out n u =
        round_same (rounds_from in_class sub budget room write is (budget - u)) (rounds in_class sub budget room write is) (match in_class sub budget is s 1 [] u) s u last out n
        (onward in_class sub budget is s u)
        (λ v low high s last out n. enough (budget - u) (suc (budget - v)) s last out n v (omega arith) (omega arith))

-- ---- What is reported

pub reported : (entry : List ℕ) (at : ℕ) (output : List ℕ) (number kind n u : ℕ) (a : TrialResult) → Upto 0 entry at output
    → result number kind (take at output) n u ≡ a
    → Reported (record { number = number; kind = kind; written = at; replacements = n; steps = u }) entry output a
reported entry at output number kind n u a upto e =
    let l = length_so_far 0 entry at output upto in
    subst (λ (x : TrialResult). Reported (record { number = number; kind = kind; written = at; replacements = n; steps = u }) entry output x) e
    (record {
      is = ap (λ (k : ℕ). record { number = number; kind = kind; written = k; replacements = n; steps = u }) (sym l);
      output = upto.untouched ∙ ap (λ (k : ℕ). take at output ++ drop k entry) (sym l);
    })

pub reported_stop : (entry : List ℕ) (at : ℕ) (output : List ℕ) (s : Stop) (n u : ℕ) (a : TrialResult) (t : Trial) → t ≡ stopped_as s at n u → Upto 0 entry at output
    → result (attempts.number_of s) (attempts.kind_of_stop s) (take at output) n u ≡ a → Reported t entry output a
reported_stop entry at output s n u a t w upto e = subst (λ x. Reported x entry output a) (sym w) (reported entry at output _ _ n u a upto e)

-- a writing that ends the trial
abbrev pub result_of : Result ℕ Stopped → List ℕ → ℕ → ℕ → TrialResult
result_of (Ok at) out n u = result 0 0 out n u
result_of (Err e) out n u = result (number_of e.stop) (kind_of_stop e.stop) out n u

pub ends_with : (r : Result ℕ Stopped) (out : List ℕ) (n u : ℕ) → result_of r out n u ≡ and_wrote (wrote_of r out) n u (λ now. result 0 0 now n u)
unfolding and_wrote
ends_with (Ok at) out n u = refl
ends_with (Err e) out n u = refl

as_written : (entry : List ℕ) (r : Result ℕ Stopped) (output : List ℕ) (n u : ℕ) (a : TrialResult) → Upto 0 entry (end_of r) output
    → result_of r (take (end_of r) output) n u ≡ a → Reported (wrote_as r n u) entry output a
as_written entry (Ok at) output n u a upto e = reported entry at output 0 0 n u a upto e
as_written entry (Err s) output n u a upto e = reported entry s.at output (number_of s.stop) (kind_of_stop s.stop) n u a upto e

pub reported_writing : (entry : List ℕ) (r : Result ℕ Stopped) (output : List ℕ) (n u : ℕ) (a : TrialResult) (t : Trial) → t ≡ wrote_as r n u → Upto 0 entry (end_of r) output
    → result_of r (take (end_of r) output) n u ≡ a → Reported t entry output a
reported_writing entry r output n u a t w upto e = subst (λ x. Reported x entry output a) (sym w) (as_written entry r output n u a upto e)

-- ---- The turns

-- the code compares the ends
pub other_end : (last : Option ℕ) (e : ℕ) → true ≡ not (option_eq nat_eq last (Some e)) → last ≡ Some e → ⊥
other_end last e h f =
    let g : true ≡ not (nat_eq e e) = rw f at h in
    let z : nat_eq e e ≡ true = eq-eqb e e refl in
    absurd (true≢false (rw z at g))

pub same_end : (last : Option ℕ) (e : ℕ) → false ≡ not (option_eq nat_eq last (Some e)) → last ≡ Some e
same_end None e h = absurd (true≢false (sym h))
same_end (Some l) e h = ap Some (eqb-true l e (not-false (nat_eq l e) (sym h)))

-- what is behind the match, as the code takes it
pub rest_of : (sub : List ℕ) (e : ℕ) → take (length sub - e) (drop e sub) ≡ drop e sub
rest_of sub e = take_all (length sub - e) (drop e sub) (omega (arith, length-drop e sub))

pub again_true : (e : ℕ) (last : Option ℕ) → last ≡ Some e → ends_again e last ≡ true
unfolding ends_again
again_true e last h = rw h (eq-eqb e e refl)

pub again_false : (e : ℕ) (last : Option ℕ) → (last ≡ Some e → ⊥) → ends_again e last ≡ false
unfolding ends_again
again_false e None h = refl
again_false e (Some last) h = ne_eqb e last (λ q. h (ap Some (sym q)))

module _ (in_class : ℕ → ℕ → Bool) (sub : List ℕ) (budget : ℕ) (strict : Bool) (rep : List ℕ) (is : List Item) (entry : List ℕ) where
  abbrev write : Writer
  write = writer_by strict rep sub (length entry)

  abbrev all : Rounds
  all = rounds in_class sub budget (length entry) write is

  abbrev whole : TrialResult
  whole = all 0 None [] 0 0

  -- the rounds from here are the whole answer
  pub record Going (place : ℕ) (last : Option ℕ) (at n u : ℕ) (output : List ℕ) : Type 0 where
    pub inside : place ≤ length sub
    pub upto : Upto 0 entry at output
    pub few : n ≤ u
    pub steps : u ≤ budget
    pub answers : all place last (take at output) n u ≡ whole

  pub starts : Going 0 None 0 0 0 entry
  starts = record { inside = omega arith; upto = begins 0 entry (omega arith); few = omega arith; steps = omega arith; answers = refl }

  module _ (place : ℕ) (last : Option ℕ) (at n u : ℕ) (output : List ℕ) (going : Going place last at n u output) where
    abbrev out : List ℕ
    out = take at output

    abbrev attempted : Outcome
    attempted = match in_class sub budget is place 1 [] u

    turn : (x : Outcome) → x ≡ attempted → round sub (length entry) write all x place last out n ≡ whole
    turn x o =
        ap (λ (x : Outcome). round sub (length entry) write all x place last out n) o
        ∙ sym (one_round in_class sub budget (length entry) write is place last out n u) ∙ going.answers

    pub stopping : (number kind v : ℕ) → stopped number kind v ≡ attempted → result number kind out n v ≡ whole
    unfolding round
    stopping number kind v o = turn (stopped number kind v) o

    onward_by : (x : Outcome) → x ≡ attempted → Onward in_class sub budget place (u + 1) x
    onward_by x o = subst (λ (x : Outcome). Onward in_class sub budget place (u + 1) x) (sym o) (onward in_class sub budget is place u)

    -- a writing, and what goes on after it
    module _ (m v : ℕ) (on : List ℕ → TrialResult) (writes : List ℕ → ℕ → Wrote) (is_whole : and_wrote (writes out (length entry)) m v on ≡ whole)
        (exit : List ℕ) (same : length exit ≡ length output) where
      in_room : and_wrote (writes out (length output)) m v on ≡ whole
      in_room = ap (λ (room : ℕ). and_wrote (writes out room) m v on) going.upto.same ∙ is_whole

      module _ (r : Result ℕ Stopped) (more : WroteAs r at output exit (writes out (length output))) where
        wrote_upto : Upto 0 entry (end_of r) exit
        wrote_upto = goes_on 0 entry at output going.upto r exit _ more same

      wrote_on : (now : ℕ) → WroteAs (Ok now) at output exit (writes out (length output)) → on (take now exit) ≡ whole
      unfolding and_wrote
      wrote_on now more = ap (λ (x : Wrote). and_wrote x m v on) more.is ∙ in_room

      wrote_ends : (e : Stopped) → WroteAs (Err e) at output exit (writes out (length output)) → result_of (Err e) (take e.at exit) m v ≡ whole
      unfolding and_wrote
      wrote_ends e more = ap (λ (x : Wrote). and_wrote x m v on) more.is ∙ in_room

    -- a match
    module _ (e : ℕ) (cs : List Capture) (v : ℕ) (o : matched e cs v ≡ attempted) where
      pub ends_later : place ≤ e
      ends_later = (onward_by (matched e cs v) o).ends.0

      pub match_steps : (u + 1 ≤ v) × (v ≤ budget)
      match_steps = let p = (onward_by (matched e cs v) o).ends.1 in (p.0, p.1)

      -- it is replaced
      module _ (new : last ≡ Some e → ⊥) where
        replaces : and_wrote (write place e cs out) (n + 1) v (λ now. all e (Some e) now (n + 1) v) ≡ whole
        unfolding round
        replaces = sym (if_false _ _ _ (again_false e last new)) ∙ turn (matched e cs v) o

        abbrev pub pieces_in : List ℕ → ℕ → Wrote
        pieces_in out room = add_pieces sub room place e cs strict (pieces rep) out

        written : and_wrote (pieces_in out (length entry)) (n + 1) v (λ now. all e (Some e) now (n + 1) v) ≡ whole
        unfolding writer_by
        written = replaces

        module _ (exit : List ℕ) (same : length exit ≡ length output) where
          pub replaced_ends : (s : Stopped) → WroteAs (Err s) at output exit (pieces_in out (length output))
              → Upto 0 entry s.at exit × (result_of (Err s) (take s.at exit) (n + 1) v ≡ whole)
          replaced_ends s more =
              (wrote_upto (n + 1) v (λ now. all e (Some e) now (n + 1) v) pieces_in written exit same (Err s) more, wrote_ends (n + 1) v (λ now. all e (Some e) now (n + 1) v) pieces_in written exit same s more)

          pub replaced_goes : (now : ℕ) → WroteAs (Ok now) at output exit (pieces_in out (length output)) → e ≤ length sub → Going e (Some e) now (n + 1) v exit
          replaced_goes now more h =
              let t = match_steps in
              record {
                inside = h;
                upto = wrote_upto (n + 1) v (λ now. all e (Some e) now (n + 1) v) pieces_in written exit same (Ok now) more;
                few = omega (arith, t.0, going.few);
                steps = t.1;
                answers = wrote_on (n + 1) v (λ now. all e (Some e) now (n + 1) v) pieces_in written exit same now more;
              }

    -- no replacement, with v steps: a byte is copied
    pub record Copies (v : ℕ) : Type 0 where
      pub taken : (u + 1 ≤ v) × (v ≤ budget)
      pub copied : copy_byte sub (length entry) all place last out n v ≡ whole

    pub failed_copies : (v : ℕ) → failed v ≡ attempted → Copies v
    unfolding round
    failed_copies v o = let p = (onward_by (failed v) o).ends in record { taken = (p.0, p.1); copied = turn (failed v) o }

    pub matched_copies : (e : ℕ) (cs : List Capture) (v : ℕ) → matched e cs v ≡ attempted → last ≡ Some e → Copies v
    unfolding round
    matched_copies e cs v o old = record { taken = match_steps e cs v o; copied = sym (if_true _ _ _ (again_true e last old)) ∙ turn (matched e cs v) o }

    module _ (v : ℕ) (copies : Copies v) where
      pub all_copied : length sub ≤ place → result 0 0 out n v ≡ whole
      unfolding copy_byte
      all_copied l = sym (if_false _ _ _ (le-ltb place (length sub) l)) ∙ copies.copied

      module _ (l : place < length sub) where
        abbrev pub byte_in : List ℕ → ℕ → Wrote
        byte_in out room = append room (byte_at sub place ∷ []) out

        copying : and_wrote (byte_in out (length entry)) n v (λ now. all (place + 1) last now n v) ≡ whole
        unfolding copy_byte
        copying = sym (if_true _ _ _ (lt-ltb place (length sub) l)) ∙ copies.copied

        module _ (exit : List ℕ) (same : length exit ≡ length output) where
          pub copy_ends : (s : Stopped) → WroteAs (Err s) at output exit (byte_in out (length output)) → Upto 0 entry s.at exit × (result_of (Err s) (take s.at exit) n v ≡ whole)
          copy_ends s more =
              (wrote_upto n v (λ now. all (place + 1) last now n v) byte_in copying exit same (Err s) more, wrote_ends n v (λ now. all (place + 1) last now n v) byte_in copying exit same s more)

          pub copy_goes : (now : ℕ) → WroteAs (Ok now) at output exit (byte_in out (length output)) → Going (place + 1) last now n v exit
          copy_goes now more =
              record {
                inside = omega arith;
                upto = wrote_upto n v (λ now. all (place + 1) last now n v) byte_in copying exit same (Ok now) more;
                few = omega (arith, copies.taken.0, going.few);
                steps = copies.taken.1;
                answers = wrote_on n v (λ now. all (place + 1) last now n v) byte_in copying exit same now more;
              }

-- ---- The one attempt of an anchored pattern

module _ (in_class : ℕ → ℕ → Bool) (sub : List ℕ) (budget : ℕ) (strict : Bool) (rep : List ℕ) (is : List Item) (entry : List ℕ) where
  abbrev attempted_once : Outcome
  attempted_once = match in_class sub budget is 0 1 [] 0

  abbrev anchored : TrialResult
  anchored = anchored_round sub (length entry) (writer_by strict rep sub (length entry)) attempted_once

  by_outcome : (x : Outcome) → x ≡ attempted_once → anchored_round sub (length entry) (writer_by strict rep sub (length entry)) x ≡ anchored
  by_outcome x o = ap (anchored_round sub (length entry) (writer_by strict rep sub (length entry))) o

  pub anchored_stops : (number kind v : ℕ) → stopped number kind v ≡ attempted_once → result number kind [] 0 v ≡ anchored
  unfolding anchored_round
  anchored_stops number kind v o = by_outcome (stopped number kind v) o

  pub anchored_fails : (v : ℕ) → failed v ≡ attempted_once → (r : Result ℕ Stopped) (exit : List ℕ) → WroteAs r 0 entry exit (append (length entry) sub (take 0 entry))
      → result_of r (take (end_of r) exit) 0 v ≡ anchored
  unfolding anchored_round copy_rest
  anchored_fails v o r exit more =
      ends_with r _ 0 v ∙ ap (λ (x : Wrote). and_wrote x 0 v (λ now. result 0 0 now 0 v)) more.is ∙ by_outcome (failed v) o

  module _ (e : ℕ) (cs : List Capture) (v : ℕ) (o : matched e cs v ≡ attempted_once) (exit : List ℕ) where
    abbrev pub once_in : Wrote
    once_in = add_pieces sub (length entry) 0 e cs strict (pieces rep) (take 0 entry)

    abbrev copies_on : List ℕ → TrialResult
    copies_on now = copy_rest sub (length entry) e now 1 v

    replacing : and_wrote once_in 1 v copies_on ≡ anchored
    unfolding anchored_round writer_by
    replacing = by_outcome (matched e cs v) o

    pub anchored_ends : (s : Stopped) → WroteAs (Err s) 0 entry exit once_in → result_of (Err s) (take s.at exit) 1 v ≡ anchored
    unfolding and_wrote
    anchored_ends s more = ap (λ (x : Wrote). and_wrote x 1 v copies_on) more.is ∙ replacing

    anchored_goes : (now : ℕ) → WroteAs (Ok now) 0 entry exit once_in → copies_on (take now exit) ≡ anchored
    unfolding and_wrote
    anchored_goes now more = ap (λ (x : Wrote). and_wrote x 1 v copies_on) more.is ∙ replacing

    pub anchored_copies : (now : ℕ) → WroteAs (Ok now) 0 entry exit once_in → length exit ≡ length entry → (rest : List ℕ) → rest ≡ drop e sub
        → (r : Result ℕ Stopped) (last : List ℕ) → WroteAs r now exit last (append (length exit) rest (take now exit))
        → result_of r (take (end_of r) last) 1 v ≡ anchored
    unfolding copy_rest
    anchored_copies now more same rest d r last copied =
        ends_with r _ 1 v
        ∙ ap (λ (x : Wrote). and_wrote x 1 v (λ now. result 0 0 now 1 v)) (copied.is ∙ ap₂ (λ (room : ℕ) (bytes : List ℕ). append room bytes (take now exit)) same d)
        ∙ anchored_goes now more

-- ---- The whole trial

module _ (version : ℕ) (pat rep sub : List ℕ) (budget room : ℕ) where
  pub no_version : is_version version ≡ false → result 25 0 [] 0 0 ≡ gsub version pat rep sub budget room
  unfolding gsub
  no_version e = sym (if_false _ _ _ e)

  -- by the row of the version, and its classes
  module _ (e : is_version version ≡ true) (rules : Rules) (row : rules ≡ rules_of version) (in_class : ℕ → ℕ → Bool) (k : in_class ≡ class_of version) where
    pub gsub_anchored : byte_at pat 0 ≡ 94
        → anchored_round sub room (writer_by (is_strict rules) rep sub room) (match in_class sub budget (items pat 1) 0 1 [] 0)
        ≡ gsub version pat rep sub budget room
    unfolding gsub str_gsub writer_by writer_of
    gsub_anchored h = rw (row, k) (sym (if_true _ _ _ e ∙ if_true _ _ _ (eq-eqb (byte_at pat 0) 94 h)))

    pub gsub_free : (byte_at pat 0 ≡ 94 → ⊥)
        → rounds in_class sub budget room (writer_by (is_strict rules) rep sub room) (items pat 0) 0 None [] 0 0 ≡ gsub version pat rep sub budget room
    unfolding gsub str_gsub writer_by writer_of
    gsub_free h = rw (row, k) (sym (if_true _ _ _ e ∙ if_false _ _ _ (ne_eqb (byte_at pat 0) 94 h)))

pub first_none : (pat : List ℕ) → length pat ≤ 0 → byte_at pat 0 ≡ 94 → ⊥
first_none [] h e = omega arith
first_none (b ∷ pat) h e = omega arith
