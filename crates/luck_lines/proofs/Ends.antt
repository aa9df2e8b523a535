-- What a listing begins with ends in a line of 14 columns and its newline only where it is the whole listing; and how long that is.
-- Assumes nothing.
use Prim.Native.Nat.{ℕ, suc, ◌+◌, ◌*◌, ◌/◌, ◌%◌, min}
use native.Mathlib.Omega.{arith}
use mathlib.Core.Path.{◌≡◌, refl, sym, ap, ◌∙◌}
use mathlib.Core.Bool.{Bool, true, false, ◌&&◌, ◌||◌}
use mathlib.Core.List.{List, [], ◌∷◌, ◌++◌, append_assoc}
use lib.ListN.{length, length-append}
use lib.Dec.{eqb, ltb}
use borrow.Author.Tests.{eq-eqb, ne_eqb}
use Rattle.luck_text.specs.Bytes.{when◌then◌else◌}
use Rattle.luck_text.proofs.Cases.{by_test}
use Rattle.luck_answer.specs.Answer.{Answer}
use Rattle.luck_line.specs.Row.{column, justified, four_columns, seven_columns, listing_row, answer_row, totals_row}
use Rattle.luck_line.proofs.Rows.{totals_length}
use Rattle.luck_lines.proofs.Streams.{answer_length}
use Rattle.luck_lines.specs.Lines.{answers, lines, rows, refused_count, listing, is_empty, ends_in_14_columns, is_whole}

-- ---- Rows have no newline but the last byte

abbrev NoNewline : List ℕ → Type 0
NoNewline [] = Unit {0}
NoNewline (b ∷ text) = (eqb b 10 ≡ false) × NoNewline text

both : (a b : List ℕ) → NoNewline a → NoNewline b → NoNewline (a ++ b)
both [] b n m = m
both (x ∷ a) b n m = (n.0, both a b n.1 m)

digit : (n : ℕ) → eqb (48 + n % 10) 10 ≡ false
digit n = ne_eqb (48 + n % 10) 10 (λ e. omega arith)

no_column : (power n : ℕ) → eqb (column power n) 10 ≡ false
unfolding column
no_column power n = by_test (λ (b : ℕ). eqb b 10 ≡ false) (ltb n power) 32 (48 + n / power % 10) (λ _. refl) (λ _. digit (n / power))

none_justified : (powers : List ℕ) (n : ℕ) → NoNewline (justified powers n)
unfolding justified
none_justified [] n = (digit n, tt)
none_justified (power ∷ powers) n = (no_column power n, none_justified powers n)

-- ---- A line

something_left : (rest more : List ℕ) (b : ℕ) → rest ≡ b ∷ more → false ≡ is_empty rest
unfolding is_empty
something_left rest more b e = ap is_empty (sym e)

at_newline : (k b : ℕ) (out : List ℕ) → b ≡ 10 → ends_in_14_columns k (b ∷ out) ≡ ((is_empty out && eqb k 14) || ends_in_14_columns 0 out)
unfolding ends_in_14_columns when◌then◌else◌
at_newline k b out e = rw (eq-eqb b 10 e)

in_line : (k b : ℕ) (out : List ℕ) → eqb b 10 ≡ false → ends_in_14_columns k (b ∷ out) ≡ ends_in_14_columns (k + 1) out
unfolding ends_in_14_columns when◌then◌else◌
in_line k b out e = rw e

-- What holds from a line's newline on holds from its beginning, with k columns before it.
module _ (width : ℕ) (more : List ℕ)
    (after : (out rest : List ℕ) → out ++ rest ≡ more → ((is_empty out && eqb width 14) || ends_in_14_columns 0 out) ≡ is_empty rest) where
  through : (line : List ℕ) (k : ℕ) → NoNewline line → k + length line ≡ width → (out rest : List ℕ) → out ++ rest ≡ line ++ 10 ∷ more
      → ends_in_14_columns k out ≡ is_empty rest
  unfolding ends_in_14_columns
  through [] k n w [] rest e = something_left rest more 10 e
  through (x ∷ line) k n w [] rest e = something_left rest (line ++ 10 ∷ more) x e
  through [] k n w (b ∷ out) rest e =
      let same : b ≡ 10 = cc in
      let left : out ++ rest ≡ more = cc in
      let columns : k ≡ width = omega arith in
      at_newline k b out same ∙ ap (λ (x : ℕ). (is_empty out && eqb x 14) || ends_in_14_columns 0 out) columns ∙ after out rest left
  through (x ∷ line) k n w (b ∷ out) rest e =
      let same : b ≡ x = cc in
      let left : out ++ rest ≡ line ++ 10 ∷ more = cc in
      in_line k b out (ap (λ (y : ℕ). eqb y 10) same ∙ n.0) ∙ through line (k + 1) n.1 (omega arith) out rest left

-- ---- Rows, and the totals

and_false : (a : Bool) → (a && false) ≡ false
and_false true = refl
and_false false = refl

-- behind a row
row_on : (out : List ℕ) (t : Bool) → ends_in_14_columns 0 out ≡ t → ((is_empty out && false) || ends_in_14_columns 0 out) ≡ t
row_on out t e = ap (λ (x : Bool). x || ends_in_14_columns 0 out) (and_false (is_empty out)) ∙ e

-- behind the totals nothing is left
nothing : (out rest : List ℕ) → out ++ rest ≡ [] → ((is_empty out && true) || ends_in_14_columns 0 out) ≡ is_empty rest
unfolding is_empty
nothing [] [] e = refl
nothing [] (b ∷ rest) e = let z : ◌≡◌ {A = ℕ} 0 1 = cc in absurd (omega arith)
nothing (b ∷ out) rest e = let z : ◌≡◌ {A = ℕ} 0 1 = cc in absurd (omega arith)

none_in_seven : (n : ℕ) → NoNewline (seven_columns n)
unfolding seven_columns
none_in_seven n = none_justified (1000000 ∷ 100000 ∷ 10000 ∷ 1000 ∷ 100 ∷ 10 ∷ []) n

none_in_four : (n : ℕ) → NoNewline (four_columns n)
unfolding four_columns
none_in_four n = none_justified (1000 ∷ 100 ∷ 10 ∷ []) n

columns_14 : (n m : ℕ) → 0 + length (seven_columns n ++ seven_columns m) ≡ 14
unfolding seven_columns justified
columns_14 n m = refl

columns_18 : (n m k : ℕ) → 0 + length (four_columns n ++ (seven_columns m ++ seven_columns k)) ≡ 18
unfolding four_columns seven_columns justified
columns_18 n m k = refl

regrouped : (a b c more rest : List ℕ) → ((a ++ (b ++ (c ++ (10 ∷ [])))) ++ more) ++ rest ≡ (a ++ (b ++ c)) ++ 10 ∷ (more ++ rest)
regrouped a b c more rest = simp append_assoc

told : (all : List Answer) (read refused : ℕ) (out rest : List ℕ) → out ++ rest ≡ rows all ++ totals_row read refused → ends_in_14_columns 0 out ≡ is_empty rest
unfolding rows totals_row listing_row
told [] read refused out rest e =
    let r = seven_columns (min read 9999999) in
    let f = seven_columns (min refused 9999999) in
    through 14 [] nothing (r ++ f) 0 (both r f (none_in_seven _) (none_in_seven _)) (columns_14 _ _) out rest (e ∙ sym (append_assoc r f (10 ∷ [])))
told (a ∷ all) read refused out rest e =
    let n = four_columns a.number in
    let o = seven_columns a.offset in
    let c = seven_columns a.count in
    let totals = totals_row read refused in
    through 18 (rows all ++ totals) (λ left more f. row_on left (is_empty more) (told all read refused left more f))
    (n ++ (o ++ c)) 0 (both n (o ++ c) (none_in_four a.number) (both o c (none_in_seven a.offset) (none_in_seven a.count)))
    (columns_18 a.number a.offset a.count) out rest (e ∙ regrouped n o c (rows all) totals)

pub whole_or_cut : (input out rest : List ℕ) → out ++ rest ≡ listing input → is_whole out ≡ is_empty rest
unfolding listing is_whole
whole_or_cut input out rest e = told (answers (lines input)) (length (answers (lines input))) (refused_count (answers (lines input))) out rest e

-- bytes that are still to come
not_all : (rest more : List ℕ) → is_empty more ≡ false → is_empty (rest ++ more) ≡ false
unfolding is_empty
not_all [] more e = e
not_all (b ∷ rest) more e = refl

pub cut_off : (input written more out rest : List ℕ) → written ++ more ≡ listing input → is_empty more ≡ false → out ++ rest ≡ written → is_whole out ≡ false
cut_off input written more out rest e n o =
    whole_or_cut input out (rest ++ more) (sym (append_assoc out rest more) ∙ ap (λ (x : List ℕ). x ++ more) o ∙ e) ∙ not_all rest more n

-- ---- How long a listing is

rows_length : (all : List Answer) → length (rows all) ≡ 19 * length all
unfolding rows
rows_length [] = omega arith
rows_length (a ∷ all) = omega (arith, length-append (answer_row a) (rows all), answer_length a, rows_length all)

answers_length : (texts : List (List ℕ)) → length (answers texts) ≡ length texts
unfolding answers
answers_length [] = refl
answers_length (text ∷ texts) = ap suc (answers_length texts)

pub listing_bytes : (input : List ℕ) → length (listing input) ≡ 19 * length (lines input) + 15
unfolding listing
listing_bytes input =
    let all = answers (lines input) in
    omega (arith, length-append (rows all) (totals_row (length all) (refused_count all)), rows_length all, answers_length (lines input), totals_length (length all) (refused_count all))
