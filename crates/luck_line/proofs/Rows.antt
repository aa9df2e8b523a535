-- A row has 19 bytes, and the line of totals 15; and what stands in an array of newlines after columns are copied to it.
-- Assumes nothing.
use Rattle.std.proofs.Common.{◌≡◌, ℕ, ◌≤◌, List, [], ◌∷◌, ◌++◌, length, take, drop, refl, sym, ap, ap₂, ◌∙◌, append_assoc, length-append, arith}
use Rattle.std.specs.Prelude.{replicate, min}
use lib.Seq.{take_at, drop_at}
use borrow.Rule.Slice.PartMut.{put_mid}
use Rattle.luck_line.specs.Row.{justified, four_columns, seven_columns, listing_row, most_shown, totals_row}

pub row_length : (number offset count : ℕ) → length (listing_row number offset count) ≡ 19
unfolding listing_row four_columns seven_columns justified
row_length number offset count = refl

pub totals_length : (read refused : ℕ) → length (totals_row read refused) ≡ 15
unfolding totals_row seven_columns justified
totals_length read refused = refl

four_length : (n : ℕ) → length (four_columns n) ≡ 4
unfolding four_columns justified
four_length n = refl

seven_length : (n : ℕ) → length (seven_columns n) ≡ 7
unfolding seven_columns justified
seven_length n = refl

-- a part that is copied behind xs
put_behind : (n k : ℕ) (xs ys rest : List ℕ) → length xs ≡ n → put_mid n k (xs ++ rest) ys ≡ xs ++ (ys ++ drop k rest)
put_behind n k xs ys rest e = ap₂ (λ (x y : List ℕ). x ++ (ys ++ drop k y)) (take_at xs rest n e) (drop_at xs rest n e)

-- two parts of a row
two_put : (a b : List ℕ) → length a ≡ 4 → put_mid 4 7 (a ++ replicate 15 10) b ≡ a ++ (b ++ replicate 8 10)
two_put a b e = put_behind 4 7 a b (replicate 15 10) e

three_put : (a b c : List ℕ) → length a ≡ 4 → length b ≡ 7
    → put_mid 11 7 (put_mid 4 7 (a ++ replicate 15 10) b) c ≡ a ++ (b ++ (c ++ (10 ∷ [])))
three_put a b c e f =
    ap (λ (x : List ℕ). put_mid 11 7 x c) (two_put a b e ∙ sym (append_assoc a b (replicate 8 10)))
    ∙ put_behind 11 7 (a ++ b) c (replicate 8 10) (omega (arith, length-append a b, e, f))
    ∙ append_assoc a b (c ++ (10 ∷ []))

module _ (number offset count : ℕ) (a b c : List ℕ) (e : a ≡ four_columns number) (f : b ≡ seven_columns offset) where
  four_here : length a ≡ 4
  four_here = ap length e ∙ four_length number

  seven_here : length b ≡ 7
  seven_here = ap length f ∙ seven_length offset

  pub room_left : 18 ≤ length (put_mid 4 7 (a ++ replicate 15 10) b)
  room_left =
      omega (arith, ap length (two_put a b four_here), length-append a (b ++ replicate 8 10), length-append b (replicate 8 10), four_here, seven_here)

  pub row_put : c ≡ seven_columns count → put_mid 11 7 (put_mid 4 7 (a ++ replicate 15 10) b) c ≡ listing_row number offset count
  unfolding listing_row
  row_put g =
      three_put a b c four_here seven_here
      ∙ ap (λ (x : List ℕ). x ++ (b ++ (c ++ (10 ∷ [])))) e
      ∙ ap₂ (λ (x y : List ℕ). four_columns number ++ (x ++ (y ++ (10 ∷ [])))) f g

pub totals_put : (read refused : ℕ) (a b : List ℕ) → a ≡ seven_columns (min read most_shown) → b ≡ seven_columns (min refused most_shown)
    → put_mid 7 7 (a ++ replicate 8 10) b ≡ totals_row read refused
unfolding totals_row
totals_put read refused a b e f =
    put_behind 7 7 a b (replicate 8 10) (ap length e ∙ seven_length (min read most_shown))
    ∙ ap₂ (λ (x y : List ℕ). x ++ (y ++ (10 ∷ []))) e f
