-- The lent output while it is written: what stands up to a place, and behind it what the output held at entry. Two writings make one.
-- Assumes nothing.
use Rattle.std.specs.Prelude.{Result, Ok, Err}
use Prim.Native.Nat.{ℕ, ◌+◌, ◌-◌, ◌≤◌, ◌<◌}
use native.Mathlib.Numerals.{add-one}
use native.Mathlib.Omega.{arith}
use mathlib.Core.Path.{◌≡◌, refl, sym, ap, subst, ◌∙◌}
use mathlib.Core.Logic.{⊎_elim}
use mathlib.Core.List.{List, [], ◌∷◌, ◌++◌}
use lib.ListN.{length, get_or, set, take, drop, take-append-drop, length-set, drop_of_length-le}
use lib.Seq.{length-take-le, drop-append-add, drop-drop, drop-set-lt, take-suc-set, drop-cons}
use borrow.Author.Tests.{lt-ltb, le-ltb}
use Rattle.luck_text.specs.Bytes.{when◌then◌else◌}
use Rattle.luck_text.proofs.Cases.{if_true, if_false, order}
use Rattle.lstr_write.specs.Replace.{Wrote, wrote, ended, and_then, append}
use Rattle.lstr_write.specs.Stops.{number_of, kind_of_stop}
use Rattle.lstr_write.specs.Inner.{end_of, WroteAs}
use Rattle.lstr_write.specs.declared.stop.Stop.{Stop}
use Rattle.lstr_write.specs.declared.stop.Stop.TheVariants as stop
use Rattle.lstr_write.specs.declared.stop.Stopped.{Stopped}

pub record Upto (at : ℕ) (entry : List ℕ) (next : ℕ) (now : List ℕ) : Type 0 where
  pub untouched : now ≡ take next now ++ drop next entry
  pub further : at ≤ next
  pub inside : next ≤ length entry
  pub same : length now ≡ length entry

pub begins : (at : ℕ) (out : List ℕ) → at ≤ length out → Upto at out at out
begins at out h = record { untouched = sym (take-append-drop at out); further = omega arith; inside = h; same = refl }

module _ (at : ℕ) (entry : List ℕ) (next : ℕ) (now : List ℕ) (upto : Upto at entry next now) where
  behind : (m : ℕ) → next ≤ m → drop m now ≡ drop m entry
  behind m h =
      let l : length (take next now) ≡ next = length-take-le next now (omega (arith, upto.inside, upto.same)) in
      let e : m ≡ length (take next now) + (m - next) = omega arith in
      let f : next + (m - next) ≡ m = omega arith in
      ap (λ (out : List ℕ). drop m out) upto.untouched ∙ ap (λ (k : ℕ). drop k (take next now ++ drop next entry)) e
      ∙ drop-append-add (take next now) (drop next entry) (m - next) ∙ drop-drop (m - next) next entry ∙ ap (λ (k : ℕ). drop k entry) f

  pub length_so_far : length (take next now) ≡ next
  length_so_far = length-take-le next now (omega (arith, upto.inside, upto.same))

  -- what is written so far is all
  pub stays : (w : Wrote) → wrote (take next now) ≡ w → WroteAs (Ok next) at entry now w
  stays w e = record { is = e; untouched = upto.untouched; further = upto.further; inside = upto.inside }

  -- or the writing ends here
  pub stops : (s : Stop) (w : Wrote) → ended (number_of s) (kind_of_stop s) (take next now) ≡ w → WroteAs (Err (record { at = next; stop = s })) at entry now w
  stops s w e = record { is = e; untouched = upto.untouched; further = upto.further; inside = upto.inside }

  -- one more byte
  module _ (b : ℕ) (h : next < length entry) where
    pub put_byte : take (next + 1) (set now next b) ≡ take next now ++ (b ∷ [])
    put_byte = rw (add-one next) (take-suc-set now next b (omega (arith, upto.same)))

    pub puts : Upto at entry (next + 1) (set now next b)
    puts =
        record {
          untouched =
              sym (take-append-drop (next + 1) (set now next b))
              ∙ ap (λ (rest : List ℕ). take (next + 1) (set now next b) ++ rest) (drop-set-lt (next + 1) now next b (omega arith) ∙ behind (next + 1) (omega arith));
          further = omega (arith, upto.further);
          inside = omega arith;
          same = length-set now next b ∙ upto.same;
        }

  -- another writing from here
  module _ (r : Result ℕ Stopped) (exit : List ℕ) (w : Wrote) (more : WroteAs r next now exit w) (same : length exit ≡ length now) where
    pub goes_on : Upto at entry (end_of r) exit
    goes_on =
        record {
          untouched = more.untouched ∙ ap (λ (rest : List ℕ). take (end_of r) exit ++ rest) (behind (end_of r) more.further);
          further = omega (arith, more.further, upto.further);
          inside = omega (arith, more.inside, upto.same);
          same = same ∙ upto.same;
        }

    pub ends_all : (all : Wrote) → w ≡ all → WroteAs r at entry exit all
    ends_all all e =
        record { is = more.is ∙ e; untouched = goes_on.untouched; further = goes_on.further; inside = goes_on.inside }

-- ---- A writing in parts

module _ (at : ℕ) (entry : List ℕ) (whole : Wrote) where
  -- what is left to write, behind what is written, makes the whole writing
  pub record Left (rest : List ℕ → Wrote) (next : ℕ) (now : List ℕ) : Type 0 where
    pub upto : Upto at entry next now
    pub is : rest (take next now) ≡ whole

  module _ (part rest : List ℕ → Wrote) (next : ℕ) (now : List ℕ) (left : Left (λ out. and_then (part out) rest) next now)
      (exit : List ℕ) (same : length exit ≡ length now) where
    pub part_done : (k : ℕ) → WroteAs (Ok k) next now exit (part (take next now)) → Left rest k exit
    unfolding and_then
    part_done k w =
        record { upto = goes_on at entry next now left.upto (Ok k) exit _ w same; is = ap (λ (x : Wrote). and_then x rest) w.is ∙ left.is }

    pub part_stops : (e : Stopped) → WroteAs (Err e) next now exit (part (take next now)) → WroteAs (Err e) at entry exit whole
    unfolding and_then
    part_stops e w =
        let u = goes_on at entry next now left.upto (Err e) exit _ w same in
        record {
          is = ap (λ (x : Wrote). and_then x rest) w.is ∙ left.is;
          untouched = u.untouched;
          further = u.further;
          inside = u.inside;
        }

-- ---- Bytes in order

one_first : (room b : ℕ) (more out : List ℕ) → append room (b ∷ more) out ≡ and_then (append room (b ∷ []) out) (λ now. append room more now)
unfolding append and_then when◌then◌else◌
one_first room b more out =
    ⊎_elim (λ l. rw (lt-ltb (length out) room l)) (λ l. rw (le-ltb (length out) room l)) (order (length out) room)

pub none_left : (room : ℕ) (bytes : List ℕ) (i : ℕ) (out : List ℕ) → length bytes ≤ i → append room (drop i bytes) out ≡ wrote out
unfolding append
none_left room bytes i out h = rw (drop_of_length-le bytes {i = i} h)

module _ (at : ℕ) (entry bytes : List ℕ) where
  abbrev pub BytesLeft : ℕ → ℕ → List ℕ → Type 0
  BytesLeft i next now =
      Left at entry (append (length entry) bytes (take at entry)) (λ out. append (length entry) (drop i bytes) out) next now

  pub next_byte : (i next : ℕ) (now : List ℕ) → i < length bytes → BytesLeft i next now
      → Left at entry (append (length entry) bytes (take at entry))
      (λ out. and_then (append (length now) (get_or bytes i 0 ∷ []) out) (λ more. append (length entry) (drop (i + 1) bytes) more)) next now
  next_byte i next now h left =
      let cut : drop i bytes ≡ get_or bytes i 0 ∷ drop (i + 1) bytes = rw (drop-cons bytes i 0 h, add-one i) in
      record {
        upto = left.upto;
        is =
            ap (λ (room : ℕ). and_then (append room (get_or bytes i 0 ∷ []) (take next now)) (λ more. append (length entry) (drop (i + 1) bytes) more)) left.upto.same
            ∙ sym (one_first (length entry) (get_or bytes i 0) (drop (i + 1) bytes) (take next now))
            ∙ ap (λ (rest : List ℕ). append (length entry) rest (take next now)) (sym cut) ∙ left.is;
      }

-- ---- One byte

module _ (at : ℕ) (entry : List ℕ) (next : ℕ) (now : List ℕ) (upto : Upto at entry next now) (b : ℕ) where
  pub byte_put : next < length entry → WroteAs (Ok (next + 1)) at entry (set now next b) (append (length entry) (b ∷ []) (take next now))
  unfolding append
  byte_put h =
      stays at entry (next + 1) (set now next b) (puts at entry next now upto b h) _
      (ap wrote (put_byte at entry next now upto b h)
      ∙ sym (if_true _ _ _ (lt-ltb (length (take next now)) (length entry) (omega (arith, length_so_far at entry next now upto)))))

  pub byte_full : length entry ≤ next → WroteAs (Err (record { at = next; stop = stop.OutputFull })) at entry now (append (length entry) (b ∷ []) (take next now))
  unfolding append
  byte_full h =
      stops at entry next now upto stop.OutputFull _
      (sym (if_false _ _ _ (le-ltb (length (take next now)) (length entry) (omega (arith, length_so_far at entry next now upto)))))

-- the same writing by another name
pub known_as : (r : Result ℕ Stopped) (at : ℕ) (entry exit : List ℕ) (w all : Wrote) → WroteAs r at entry exit w → w ≡ all → WroteAs r at entry exit all
known_as r at entry exit w all more e = subst (λ (x : Wrote). WroteAs r at entry exit x) e more

-- nothing is written
pub raises : (at : ℕ) (out : List ℕ) (s : Stop) (w : Wrote) → at ≤ length out → ended (number_of s) (kind_of_stop s) (take at out) ≡ w
    → WroteAs (Err (record { at = at; stop = s })) at out out w
raises at out s w h e = stops at out at out (begins at out h) s w e
