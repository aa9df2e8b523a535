-- What is written for a digit, an escape and the pieces of a replacement, case by case.
-- Assumes nothing.
use Rattle.std.specs.Prelude.{Ok, Err}
use Prim.Native.Nat.{ℕ, zero, suc, ◌+◌, ◌-◌, ◌≤◌, ◌<◌}
use native.Mathlib.Numerals.{add-one}
use native.Mathlib.Omega.{arith}
use mathlib.Core.Path.{◌≡◌, refl, sym, ap, ◌∙◌}
use mathlib.Core.Bool.{Bool, true, false}
use mathlib.Core.List.{List, [], ◌∷◌}
use lib.ListN.{length, get_or, take, drop, drop_of_length-le}
use lib.Seq.{drop-cons}
use borrow.Author.Tests.{eq-eqb, ne_eqb, le-leb, lt-leb}
use Rattle.luck_text.specs.Bytes.{when◌then◌else◌, byte_at, part, is_digit}
use Rattle.luck_text.proofs.Cases.{if_true, if_false}
use Rattle.luck_replacement.specs.Replacement.{Piece, literal, digit, percent, other, lone, escaped, pieces}
use Rattle.lstr_item.specs.Match.{Capture, opened}
use Rattle.lstr_write.specs.Replace.{Wrote, wrote, ended, and_then, append, decimal, add_capture, add_digit, add_piece, add_pieces}
use Rattle.lstr_item.specs.Inner.{unfinished, positional, capture_of, no_pair, captures_in}
use Rattle.lstr_item.specs.declared.capture.Pair.{Pair}
use Rattle.lstr_write.specs.Inner.{WroteAs}
use Rattle.lstr_write.specs.declared.stop.Stopped.{Stopped}
use Rattle.lstr_write.proofs.Outputs.{Left, part_done, part_stops}

-- ---- A capture

module _ (sub : List ℕ) (room start len : ℕ) (out : List ℕ) where
  pub is_opened : len ≡ unfinished → ended 29 6 out ≡ add_capture sub room (capture_of start len) out
  unfolding add_capture capture_of when◌then◌else◌
  is_opened e = rw (eq-eqb len unfinished e)

  module _ (n : len ≡ unfinished → ⊥) where
    pub is_position : len ≡ positional → append room (decimal (start + 1)) out ≡ add_capture sub room (capture_of start len) out
    unfolding add_capture capture_of when◌then◌else◌
    is_position e = rw (ne_eqb len unfinished n, eq-eqb len positional e)

    pub is_closed : (len ≡ positional → ⊥) → append room (part sub start (start + len)) out ≡ add_capture sub room (capture_of start len) out
    unfolding add_capture capture_of when◌then◌else◌
    is_closed m = rw (ne_eqb len unfinished n, ne_eqb len positional m)

-- ---- The captures of a match

captures_length : (pairs : List Pair) → length (captures_in pairs) ≡ length pairs
unfolding captures_in
captures_length [] = refl
captures_length (q ∷ pairs) = ap suc (captures_length pairs)

captures_at : (pairs : List Pair) (i : ℕ) → i < length pairs
    → get_or (captures_in pairs) i (opened 0) ≡ capture_of (get_or pairs i no_pair).start (get_or pairs i no_pair).len
unfolding captures_in
captures_at [] i h = absurd (omega arith)
captures_at (q ∷ pairs) zero h = refl
captures_at (q ∷ pairs) (suc i) h = captures_at pairs i (omega arith)

-- ---- A digit

module _ (sub : List ℕ) (room s e : ℕ) (cs : List Capture) (d : ℕ) (out : List ℕ) where
  pub digit_zero : d ≡ 0 → append room (part sub s e) out ≡ add_digit sub room s e cs d out
  unfolding add_digit
  digit_zero h = sym (if_true _ _ _ (eq-eqb d 0 h))

  module _ (n : d ≡ 0 → ⊥) where
    pub digit_capture : d ≤ length cs → add_capture sub room (get_or cs (d - 1) (opened 0)) out ≡ add_digit sub room s e cs d out
    unfolding add_digit
    digit_capture h = sym (if_false _ _ _ (ne_eqb d 0 n) ∙ if_true _ _ _ (le-leb d (length cs) h))

    pub digit_whole : length cs < d → d ≡ 1 → append room (part sub s e) out ≡ add_digit sub room s e cs d out
    unfolding add_digit
    digit_whole h f = sym (if_false _ _ _ (ne_eqb d 0 n) ∙ if_false _ _ _ (lt-leb d (length cs) h) ∙ if_true _ _ _ (eq-eqb d 1 f))

    pub digit_none : length cs < d → (d ≡ 1 → ⊥) → ended 29 10 out ≡ add_digit sub room s e cs d out
    unfolding add_digit
    digit_none h f = sym (if_false _ _ _ (ne_eqb d 0 n) ∙ if_false _ _ _ (lt-leb d (length cs) h) ∙ if_false _ _ _ (ne_eqb d 1 f))

-- a digit among those of a match, and one that is not
module _ (sub : List ℕ) (room s e : ℕ) (pairs : List Pair) (d : ℕ) (out : List ℕ) (z : d ≡ 0 → ⊥) where
  abbrev here : Pair
  here = get_or pairs (d - 1) no_pair

  abbrev Digit : Wrote → Type 0
  Digit w = w ≡ add_digit sub room s e (captures_in pairs) d out

  pub digit_kept : d - 1 < length pairs → Digit (add_capture sub room (capture_of here.start here.len) out)
  digit_kept l =
      ap (λ (c : Capture). add_capture sub room c out) (sym (captures_at pairs (d - 1) l))
      ∙ digit_capture sub room s e (captures_in pairs) d out z (omega (arith, captures_length pairs))

  module _ (l : length pairs ≤ d - 1) where
    pub digit_one : d - 1 ≡ 0 → Digit (append room (part sub s e) out)
    digit_one f = digit_whole sub room s e (captures_in pairs) d out z (omega (arith, captures_length pairs)) (omega arith)

    pub digit_missing : (d - 1 ≡ 0 → ⊥) → Digit (ended 29 10 out)
    digit_missing f = digit_none sub room s e (captures_in pairs) d out z (omega (arith, captures_length pairs)) (λ g. f (omega arith))

-- ---- An escape

module _ (b : ℕ) where
  escapes_percent : b ≡ 37 → escaped b ≡ percent
  unfolding escaped when◌then◌else◌
  escapes_percent e = rw (eq-eqb b 37 e)

  module _ (n : b ≡ 37 → ⊥) where
    escapes_digit : is_digit b ≡ true → escaped b ≡ digit (b - 48)
    unfolding escaped when◌then◌else◌
    escapes_digit e = rw (ne_eqb b 37 n, e)

    escapes_other : is_digit b ≡ false → escaped b ≡ other b
    unfolding escaped when◌then◌else◌
    escapes_other e = rw (ne_eqb b 37 n, e)

module _ (sub : List ℕ) (room s e : ℕ) (cs : List Capture) (strict : Bool) (b : ℕ) (out : List ℕ) where
  abbrev adds : Piece → Wrote
  adds p = add_piece sub room s e cs strict p out

  pub adds_percent : b ≡ 37 → append room (37 ∷ []) out ≡ adds (escaped b)
  unfolding add_piece
  adds_percent h = sym (ap adds (escapes_percent b h))

  module _ (n : b ≡ 37 → ⊥) where
    pub adds_digit : is_digit b ≡ true → add_digit sub room s e cs (b - 48) out ≡ adds (escaped b)
    unfolding add_piece
    adds_digit h = sym (ap adds (escapes_digit b n h))

    pub adds_other : is_digit b ≡ false → strict ≡ false → append room (b ∷ []) out ≡ adds (escaped b)
    unfolding add_piece
    adds_other h t = sym (ap adds (escapes_other b n h) ∙ if_false _ _ _ t)

    pub adds_none : is_digit b ≡ false → strict ≡ true → ended 29 9 out ≡ adds (escaped b)
    unfolding add_piece
    adds_none h t = sym (ap adds (escapes_other b n h) ∙ if_true _ _ _ t)

-- ---- The pieces of a text at a place

piece_one : (b : ℕ) (more : List ℕ) → (b ≡ 37 → ⊥) → pieces (b ∷ more) ≡ literal b ∷ pieces more
unfolding pieces when◌then◌else◌
piece_one b [] h = rw (ne_eqb b 37 h)
piece_one b (c ∷ more) h = rw (ne_eqb b 37 h)

piece_two : (b c : ℕ) (more : List ℕ) → b ≡ 37 → pieces (b ∷ c ∷ more) ≡ escaped c ∷ pieces more
unfolding pieces when◌then◌else◌
piece_two b c more e = rw (eq-eqb b 37 e)

piece_last : (b : ℕ) → b ≡ 37 → pieces (b ∷ []) ≡ lone ∷ []
unfolding pieces when◌then◌else◌
piece_last b e = rw (eq-eqb b 37 e)

module _ (text : List ℕ) (p : ℕ) where
  pub at_end : length text ≤ p → pieces (drop p text) ≡ []
  unfolding pieces
  at_end h = rw (drop_of_length-le text {i = p} h)

  module _ (h : p < length text) where
    pub at_literal : (byte_at text p ≡ 37 → ⊥) → pieces (drop p text) ≡ literal (byte_at text p) ∷ pieces (drop (p + 1) text)
    at_literal e = rw (drop-cons text p 0 h, add-one p) (piece_one _ _ e)

    pub at_escape : byte_at text p ≡ 37 → p + 1 < length text → pieces (drop p text) ≡ escaped (byte_at text (p + 1)) ∷ pieces (drop (p + 1 + 1) text)
    at_escape e l =
        let s : suc p ≡ p + 1 = omega arith in
        let t : suc (p + 1) ≡ p + 1 + 1 = omega arith in
        rw (drop-cons text p 0 h, s, drop-cons text (p + 1) 0 l, t) (piece_two _ _ _ e)

    pub at_lone : byte_at text p ≡ 37 → length text ≤ p + 1 → pieces (drop p text) ≡ lone ∷ []
    at_lone e l =
        let s : suc p ≡ p + 1 = omega arith in
        rw (drop-cons text p 0 h, s, drop_of_length-le text {i = p + 1} l) (piece_last _ e)

-- writing nothing more
then_wrote : (w : Wrote) → and_then w (λ out. wrote out) ≡ w
unfolding and_then
then_wrote (wrote out) = refl
then_wrote (ended number kind out) = refl

-- ---- The pieces from a place on, behind what is written

module _ (sub : List ℕ) (s e : ℕ) (cs : List Capture) (strict : Bool) (rep : List ℕ) (at : ℕ) (entry : List ℕ) where
  abbrev on : ℕ → List ℕ → Wrote
  on read out = add_pieces sub (length entry) s e cs strict (pieces (drop read rep)) out

  abbrev all : Wrote
  all = add_pieces sub (length entry) s e cs strict (pieces rep) (take at entry)

  -- the pieces from `read` on, behind what is written up to `next`, make the whole writing
  pub record Pieces (read next : ℕ) (now : List ℕ) : Type 0 where
    pub inside : read ≤ length rep
    pub left : Left at entry all (on read) next now

  module _ (read next : ℕ) (now : List ℕ) (so_far : Pieces read next now) where
    abbrev Ends : Wrote → Type 0
    Ends w = w ≡ all

    pub all_pieces : length rep ≤ read → Ends (wrote (take next now))
    unfolding add_pieces
    all_pieces h =
        sym (ap (λ (ps : List Piece). add_pieces sub (length entry) s e cs strict ps (take next now)) (at_end rep read h)) ∙ so_far.left.is

    -- a piece from `read` up to `after`
    module _ (p : Piece) (after : ℕ) (here : pieces (drop read rep) ≡ p ∷ pieces (drop after rep)) where
      abbrev adds_here : List ℕ → Wrote
      adds_here out = add_piece sub (length now) s e cs strict p out

      cut : Left at entry all (λ out. and_then (adds_here out) (on after)) next now
      unfolding add_pieces
      cut =
          record {
            upto = so_far.left.upto;
            is =
                ap (λ (room : ℕ). and_then (add_piece sub room s e cs strict p (take next now)) (on after)) so_far.left.upto.same
                ∙ sym (ap (λ (ps : List Piece). add_pieces sub (length entry) s e cs strict ps (take next now)) here) ∙ so_far.left.is;
          }

      module _ (exit : List ℕ) (same : length exit ≡ length now) where
        pub piece_done : after ≤ length rep → (k : ℕ) → WroteAs (Ok k) next now exit (adds_here (take next now)) → Pieces after k exit
        piece_done fits k w = record { inside = fits; left = part_done at entry all adds_here (on after) next now cut exit same k w }

        pub piece_stops : (x : Stopped) → WroteAs (Err x) next now exit (adds_here (take next now)) → WroteAs (Err x) at entry exit all
        piece_stops x w = part_stops at entry all adds_here (on after) next now cut exit same x w

    -- a final `%`
    module _ (h : read < length rep) (b : byte_at rep read ≡ 37) (l : length rep ≤ read + 1) where
      only : Ends (add_piece sub (length entry) s e cs strict lone (take next now))
      unfolding add_pieces
      only =
          sym (then_wrote (add_piece sub (length entry) s e cs strict lone (take next now)))
          ∙ sym (ap (λ (ps : List Piece). add_pieces sub (length entry) s e cs strict ps (take next now)) (at_lone rep read h b l)) ∙ so_far.left.is

      pub lone_zero : strict ≡ false → Ends (append (length now) (0 ∷ []) (take next now))
      unfolding add_piece
      lone_zero t = ap (λ (room : ℕ). append room (0 ∷ []) (take next now)) so_far.left.upto.same ∙ sym (if_false _ _ _ t) ∙ only

      pub lone_raises : strict ≡ true → Ends (ended 29 9 (take next now))
      unfolding add_piece
      lone_raises t = sym (if_true _ _ _ t) ∙ only
