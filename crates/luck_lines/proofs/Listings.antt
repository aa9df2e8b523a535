-- Laws of lines and listings: a line that ends in what is there, bytes with no newline, a line that is too long already, and the totals.
-- Assumes nothing.
use mathlib.Core.Path.{◌≡◌, refl, sym, ap, ap₂, ◌∙◌}
use Prim.Native.Nat.{ℕ, suc, ◌+◌, ◌<◌, min}
use native.Mathlib.Nat.{not-suc-le-zero, le_of_suc-le-suc, suc_inj, suc-ne-zero}
use native.Mathlib.Omega.{arith}
use mathlib.Core.Bool.{Bool, true, false, not}
use mathlib.Core.List.{List, [], ◌∷◌, ◌++◌, append-nil, append_assoc}
use lib.ListN.{length, take, drop, replicate, length-append, length-replicate}
use lib.Seq.{append_snoc}
use lib.Dec.{eqb}
use Rattle.luck_text.specs.Bytes.{when◌then◌else◌, run}
use Rattle.luck_answer.specs.Answer.{Answer, refused}
use Rattle.luck_line.specs.Line.{line_answer}
use Rattle.luck_line.specs.Row.{justified, seven_columns, answer_row, totals_row}
use Rattle.luck_lines.specs.Lines.{last_line, lines_from, lines, answers, rows, is_refused, refused_count, listing, is_empty}
use Rattle.luck_lines.specs.Stream.{line_length, start, answer_after, too_long, counted, totals_of, last_row_and_totals, passed, listing_after}
use Rattle.luck_lines.specs.declared.stream.State.{State}
use Rattle.luck_line.proofs.Heads.{too_long_lem}

-- ---- A newline among the bytes that are there

at_newline : (t : Bool) (line : List ℕ) (b : ℕ) (xs rest : List ℕ)
    → ((l : List ℕ) → line_length xs < length xs → lines_from l (xs ++ rest) ≡ (l ++ take (line_length xs) xs) ∷ lines_from [] (drop (suc (line_length xs)) xs ++ rest))
    → (when not t then suc (line_length xs) else 0) < suc (length xs)
    → (when t then line ∷ lines_from [] (xs ++ rest) else lines_from (line ++ (b ∷ [])) (xs ++ rest))
    ≡ (line ++ take (when not t then suc (line_length xs) else 0) (b ∷ xs)) ∷ lines_from [] (drop (suc (when not t then suc (line_length xs) else 0)) (b ∷ xs) ++ rest)
unfolding when◌then◌else◌
at_newline true line b xs rest ih h = ap (λ (l : List ℕ). l ∷ lines_from [] (xs ++ rest)) (sym (append-nil line))
at_newline false line b xs rest ih h =
    ih (line ++ (b ∷ [])) (le_of_suc-le-suc h)
    ∙ ap (λ (l : List ℕ). l ∷ lines_from [] (drop (suc (line_length xs)) xs ++ rest)) (append_snoc line b (take (line_length xs) xs))

pub lines_newline : (line s rest : List ℕ) → line_length s < length s
    → lines_from line (s ++ rest) ≡ (line ++ take (line_length s) s) ∷ lines_from [] (drop (suc (line_length s)) s ++ rest)
unfolding lines_from line_length run
lines_newline line [] rest h = absurd (not-suc-le-zero h)
lines_newline line (b ∷ xs) rest h = at_newline (eqb b 10) line b xs rest (λ l. lines_newline l xs rest) h

-- ---- No newline among them

past_none : (t : Bool) (line : List ℕ) (b : ℕ) (xs rest : List ℕ)
    → ((l : List ℕ) → line_length xs ≡ length xs → lines_from l (xs ++ rest) ≡ lines_from (l ++ xs) rest)
    → (when not t then suc (line_length xs) else 0) ≡ suc (length xs)
    → (when t then line ∷ lines_from [] (xs ++ rest) else lines_from (line ++ (b ∷ [])) (xs ++ rest)) ≡ lines_from (line ++ b ∷ xs) rest
unfolding when◌then◌else◌
past_none true line b xs rest ih h = absurd (suc-ne-zero (length xs) (sym h))
past_none false line b xs rest ih h = ih (line ++ (b ∷ [])) (suc_inj h) ∙ ap (λ (l : List ℕ). lines_from l rest) (append_snoc line b xs)

pub lines_none : (line s rest : List ℕ) → line_length s ≡ length s → lines_from line (s ++ rest) ≡ lines_from (line ++ s) rest
unfolding lines_from line_length run
lines_none line [] rest h = ap (λ (l : List ℕ). lines_from l rest) (sym (append-nil line))
lines_none line (b ∷ xs) rest h = past_none (eqb b 10) line b xs rest (λ l. lines_none l xs rest) h

-- ---- A line that is too long already: which bytes it had makes no difference

long_answer : (l : List ℕ) → 4005 < length l → line_answer l ≡ refused 31 0
long_answer l h = sym (too_long_lem l h)

last_long : (l : List ℕ) → 4005 < length l → answers (last_line l) ≡ refused 31 0 ∷ []
unfolding answers last_line
last_long [] h = absurd (not-suc-le-zero h)
last_long (b ∷ l) h = ap (λ (a : Answer). a ∷ []) (long_answer (b ∷ l) h)

longer : (l : List ℕ) (b : ℕ) → 4005 < length l → 4005 < length (l ++ (b ∷ []))
longer l b h = omega (arith, length-append l (b ∷ []))

same_next : (t : Bool) (l m : List ℕ) (next : List (List ℕ)) (on on' : List (List ℕ)) → 4005 < length l → 4005 < length m → answers on ≡ answers on'
    → answers (when t then l ∷ next else on) ≡ answers (when t then m ∷ next else on')
unfolding when◌then◌else◌ answers
same_next true l m next on on' hl hm e = ap (λ (a : Answer). a ∷ answers next) (long_answer l hl ∙ sym (long_answer m hm))
same_next false l m next on on' hl hm e = e

answers_long : (l m xs : List ℕ) → 4005 < length l → 4005 < length m → answers (lines_from l xs) ≡ answers (lines_from m xs)
unfolding lines_from
answers_long l m [] hl hm = last_long l hl ∙ sym (last_long m hm)
answers_long l m (b ∷ xs) hl hm =
    same_next (eqb b 10) l m (lines_from [] xs) _ _ hl hm (answers_long (l ++ (b ∷ [])) (m ++ (b ∷ [])) xs (longer l b hl) (longer m b hm))

many : (s : List ℕ) → 4005 < length (passed true ++ s)
unfolding passed
many s = omega (arith, length-append {A = ℕ} (replicate 4006 0) s, length-replicate {A = ℕ} 4006 0)

many_alone : 4005 < length (passed true)
unfolding passed
many_alone = omega (arith, length-replicate {A = ℕ} 4006 0)

-- ---- The answers after what was passed

-- a line that ends in what is there
first_answer : (long : Bool) (xs rest : List ℕ) → line_length xs < length xs
    → answers (lines_from (passed long) (xs ++ rest)) ≡ answer_after long (take (line_length xs) xs) ∷ answers (lines_from [] (drop (suc (line_length xs)) xs ++ rest))
unfolding answer_after answers passed
first_answer false xs rest h = ap answers (lines_newline [] xs rest h)
first_answer true xs rest h =
    ap answers (lines_newline (passed true) xs rest h)
    ∙ ap (λ (a : Answer). a ∷ answers (lines_from [] (drop (suc (line_length xs)) xs ++ rest))) (long_answer (passed true ++ take (line_length xs) xs) (many (take (line_length xs) xs)))

-- none ends, and the one that goes on is too long
none_passed : (xs rest : List ℕ) → 4005 < length xs → answers (lines_from (passed false ++ xs) rest) ≡ answers (lines_from (passed true) rest)
unfolding passed
none_passed xs rest h = answers_long xs (passed true) rest h many_alone

long_answers : (long : Bool) (xs rest : List ℕ) → line_length xs ≡ length xs → (long ≡ false → 4005 < length xs)
    → answers (lines_from (passed long) (xs ++ rest)) ≡ answers (lines_from (passed true) rest)
long_answers false xs rest e h = ap answers (lines_none (passed false) xs rest e) ∙ none_passed xs rest (h refl)
long_answers true xs rest e h = ap answers (lines_none (passed true) xs rest e) ∙ answers_long (passed true ++ xs) (passed true) rest (many xs) many_alone

-- the input ends
due : (long : Bool) (xs : List ℕ) → (long ≡ false → length xs ≡ 0 → ⊥) → answers (lines_from (passed long ++ xs) []) ≡ answer_after long xs ∷ []
unfolding lines_from answer_after answers last_line passed
due false [] n = absurd (n refl refl)
due false (b ∷ xs) n = refl
due true xs n = last_long (passed true ++ xs) (many xs)

last_answer : (long : Bool) (xs : List ℕ) → line_length xs ≡ length xs → (long ≡ false → length xs ≡ 0 → ⊥)
    → answers (lines_from (passed long) xs) ≡ answer_after long xs ∷ []
last_answer long xs e h =
    ap (λ (x : List ℕ). answers (lines_from (passed long) x)) (sym (append-nil xs)) ∙ ap answers (lines_none (passed long) xs [] e) ∙ due long xs h

no_answer : (long : Bool) (xs : List ℕ) → long ≡ false → length xs ≡ 0 → answers (lines_from (passed long) xs) ≡ []
unfolding lines_from answers last_line passed
no_answer false [] l e = refl
no_answer true [] l e = let z : ◌≡◌ {A = ℕ} 0 1 = cc in absurd (omega arith)
no_answer long (b ∷ xs) l e = absurd (suc-ne-zero (length xs) e)

-- ---- The totals

-- A number that stops at the most that is shown is shown as one that does not.
shown_more : (total n : ℕ) → min (total + suc n) 9999999 ≡ min (min (total + 1) 9999999 + n) 9999999
shown_more total n = omega arith

-- a rows' listing, behind so many lines
abbrev listed : ℕ → ℕ → List Answer → List ℕ
listed read refused all = rows all ++ totals_row (read + length all) (refused + refused_count all)

refused_more : (t : Bool) (total n : ℕ) → min (total + ((when t then 1 else 0) + n)) 9999999 ≡ min ((when t then min (total + 1) 9999999 else total) + n) 9999999
unfolding when◌then◌else◌
refused_more true total n = omega arith
refused_more false total n = omega arith

totals_more : (s : State) (a : Answer) (n m : ℕ)
    → totals_row (s.read + suc n) (s.refused + ((when is_refused a.number then 1 else 0) + m)) ≡ totals_row ((counted s a.number).read + n) ((counted s a.number).refused + m)
unfolding totals_row counted
totals_more s a n m = rw (shown_more s.read n, refused_more (is_refused a.number) s.refused m)

listed_more : (s : State) (a : Answer) (all : List Answer)
    → listed s.read s.refused (a ∷ all) ≡ answer_row a ++ listed (counted s a.number).read (counted s a.number).refused all
unfolding rows refused_count
listed_more s a all =
    append_assoc (answer_row a) (rows all) _
    ∙ ap (λ (x : List ℕ). answer_row a ++ (rows all ++ x)) (totals_more s a (length all) (refused_count all))

listed_none : (read refused : ℕ) → listed read refused [] ≡ totals_row read refused
unfolding rows refused_count
listed_none read refused = ap₂ totals_row (omega arith) (omega arith)

-- ---- The listing after what was passed

module _ (s : State) (xs rest : List ℕ) where
  pub after_line : line_length xs < length xs
      → listing_after s (xs ++ rest)
      ≡ answer_row (answer_after s.long (take (line_length xs) xs))
      ++ listing_after (counted s (answer_after s.long (take (line_length xs) xs)).number) (drop (suc (line_length xs)) xs ++ rest)
  unfolding listing_after counted passed
  after_line h = ap (listed s.read s.refused) (first_answer s.long xs rest h) ∙ listed_more s (answer_after s.long (take (line_length xs) xs)) _

  pub after_long : line_length xs ≡ length xs → (s.long ≡ false → 4005 < length xs) → listing_after s (xs ++ rest) ≡ listing_after (too_long s) rest
  unfolding listing_after
  after_long e h = ap (listed s.read s.refused) (long_answers s.long xs rest e h)

-- nothing was passed
pub from_start : (input : List ℕ) → listing_after start input ≡ listing input
unfolding listing_after listing lines passed
from_start input = let all = answers (lines_from [] input) in ap₂ (λ (x y : ℕ). rows all ++ totals_row x y) (omega arith) (omega arith)

-- ---- The end of the input

module _ (s : State) (xs : List ℕ) where
  pub last_row : line_length xs ≡ length xs → (s.long ≡ false → length xs ≡ 0 → ⊥) → last_row_and_totals s xs ≡ listing_after s xs
  unfolding listing_after last_row_and_totals
  last_row e h =
      let a = answer_after s.long xs in
      sym
      (ap (listed s.read s.refused) (last_answer s.long xs e h) ∙ listed_more s a []
      ∙ ap (λ (x : List ℕ). answer_row a ++ x) (listed_none (counted s a.number).read (counted s a.number).refused))

  pub last_none : s.long ≡ false → length xs ≡ 0 → totals_of s ≡ listing_after s xs
  unfolding listing_after
  last_none l e = sym (ap (listed s.read s.refused) (no_answer s.long xs l e) ∙ listed_none s.read s.refused)

-- the totals are always due
behind : (xs : List ℕ) (read refused : ℕ) → is_empty (xs ++ totals_row read refused) ≡ false
unfolding is_empty totals_row seven_columns justified
behind [] read refused = refl
behind (x ∷ xs) read refused = refl

pub some_due : (s : State) (input : List ℕ) → is_empty (listing_after s input) ≡ false
unfolding listing_after
some_due s input = behind (rows (answers (lines_from (passed s.long) input))) _ _
