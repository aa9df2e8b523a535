-- A number in decimal, without its bound, and its digits written from the back of an array of 20.
-- Assumes nothing.
use Prim.Native.Nat.{ℕ, zero, suc, ◌+◌, ◌-◌, ◌*◌, ◌/◌, ◌%◌, ◌≤◌, ◌<◌}
use native.Mathlib.Numerals.{add-one}
use native.Mathlib.Omega.{arith}
use mathlib.Core.Path.{◌≡◌, refl, sym, ap, ◌∙◌}
use mathlib.Core.Logic.{⊎_elim}
use mathlib.Core.List.{List, [], ◌∷◌, ◌++◌, append_assoc, append-nil}
use lib.ListN.{length, set, drop, take, length-set, length-drop, drop_of_length-le}
use lib.Seq.{drop-cons, get_or-set_same, drop-set-lt, take_all}
use borrow.Author.Tests.{lt-ltb, le-ltb}
use Rattle.luck_text.proofs.Cases.{if_true, if_false, order}
use Rattle.lstr_write.specs.Replace.{decimal_from, decimal}

-- ---- The law without the bound

from_small : (n x : ℕ) → x < 10 → decimal_from (suc n) x ≡ (48 + x) ∷ []
unfolding decimal_from
from_small n x h = if_true _ _ _ (lt-ltb x 10 h)

from_large : (n x : ℕ) → 10 ≤ x → decimal_from (suc n) x ≡ decimal_from n (x / 10) ++ ((48 + x % 10) ∷ [])
unfolding decimal_from
from_large n x h = if_false _ _ _ (le-ltb x 10 h)

enough : (n m x : ℕ) → x < n → x < m → decimal_from n x ≡ decimal_from m x
enough zero m x h g = absurd (omega arith)
enough (suc n) zero x h g = absurd (omega arith)
enough (suc n) (suc m) x h g =
    ⊎_elim (λ l. from_small n x l ∙ sym (from_small m x l))
    (λ l.
    from_large n x l ∙ ap (λ (high : List ℕ). high ++ ((48 + x % 10) ∷ [])) (enough n m (x / 10) (omega arith) (omega arith))
    ∙ sym (from_large m x l))
    (order x 10)

pub decimal_small : (x : ℕ) → x < 10 → decimal x ≡ (48 + x) ∷ []
unfolding decimal
decimal_small x h = from_small x x h

pub decimal_large : (x : ℕ) → 10 ≤ x → decimal x ≡ decimal (x / 10) ++ ((48 + x % 10) ∷ [])
unfolding decimal
decimal_large x h =
    from_large x x h ∙ ap (λ (high : List ℕ). high ++ ((48 + x % 10) ∷ [])) (enough x (suc (x / 10)) (x / 10) (omega arith) (omega arith))

-- ---- The digits in the array

unfoldable pub tens : ℕ → ℕ
tens zero = 1
tens (suc n) = 10 * tens n

twenty : tens 20 ≡ 100000000000000000000
unfolding tens
twenty = refl

tens_less : (f left : ℕ) → 1 ≤ f → left < tens f → left / 10 < tens (f - 1)
unfolding tens
tens_less zero left l h = absurd (omega arith)
tens_less (suc f) left l h = let e : suc f - 1 ≡ f = omega arith in rw e (omega arith)

tens_none : (f x : ℕ) → f ≡ 0 → x < tens f → x ≡ 0
unfolding tens
tens_none zero x e h = omega arith
tens_none (suc f) x e h = absurd (omega arith)

put_front : (digits : List ℕ) (f b : ℕ) → f < length digits → drop f (set digits f b) ≡ b ∷ drop (f + 1) digits
put_front digits f b h =
    let g : f < length (set digits f b) = omega (arith, length-set digits f b) in
    rw (drop-cons (set digits f b) f 0 g, get_or-set_same digits f b 0 h, drop-set-lt (suc f) digits f b (omega arith), add-one f)

-- the digits from `first` on are written, and those of `left` are to come
pub record Digits (number : ℕ) (digits : List ℕ) (first left : ℕ) : Type 0 where
  pub all : length digits ≡ 20
  pub low : 1 ≤ first
  pub high : first ≤ 20
  pub few : left < tens first
  pub is : decimal left ++ drop first digits ≡ decimal number

pub no_digit : (number : ℕ) (digits : List ℕ) → length digits ≡ 20 → number < 18446744073709551616 → Digits number digits 20 number
no_digit number digits e h =
    record {
      all = e;
      low = omega arith;
      high = omega arith;
      few = omega (arith, twenty);
      is = ap (λ (rest : List ℕ). decimal number ++ rest) (drop_of_length-le digits {i = 20} (omega arith)) ∙ append-nil (decimal number);
    }

module _ (number : ℕ) (digits : List ℕ) (first left : ℕ) (so_far : Digits number digits first left) where
  abbrev put : List ℕ
  put = set digits (first - 1) (48 + left % 10)

  front : drop (first - 1) put ≡ (48 + left % 10) ∷ drop first digits
  front =
      let e : first - 1 + 1 ≡ first = omega (arith, so_far.low) in
      put_front digits (first - 1) (48 + left % 10) (omega (arith, so_far.all, so_far.low, so_far.high)) ∙ ap (λ (k : ℕ). (48 + left % 10) ∷ drop k digits) e

  pub one_digit : (left / 10 ≡ 0 → ⊥) → Digits number put (first - 1) (left / 10)
  one_digit n =
      let less = tens_less first left so_far.low so_far.few in
      record {
        all = length-set digits (first - 1) (48 + left % 10) ∙ so_far.all;
        low = ⊎_elim (λ l. absurd (n (tens_none (first - 1) (left / 10) (omega arith) less))) (λ l. l) (order (first - 1) 1);
        high = omega (arith, so_far.high);
        few = less;
        is =
            ap (λ (rest : List ℕ). decimal (left / 10) ++ rest) front
            ∙ sym (append_assoc (decimal (left / 10)) ((48 + left % 10) ∷ []) (drop first digits))
            ∙ ap (λ (high : List ℕ). high ++ drop first digits) (sym (decimal_large left (omega arith)))
            ∙ so_far.is;
      }

  pub last_digit : left / 10 ≡ 0 → take (20 - (first - 1)) (drop (first - 1) put) ≡ decimal number
  last_digit z =
      let e : left % 10 ≡ left = omega arith in
      take_all (20 - (first - 1)) (drop (first - 1) put)
      (omega (arith, length-drop (first - 1) put, length-set digits (first - 1) (48 + left % 10), so_far.all))
      ∙ front ∙ ap (λ (x : ℕ). (48 + x) ∷ drop first digits) e
      ∙ ap (λ (high : List ℕ). high ++ drop first digits) (sym (decimal_small left (omega arith)))
      ∙ so_far.is
