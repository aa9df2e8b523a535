-- Cases on a test, and what a byte that is there says of its place.
-- Assumes nothing.
use Prim.Native.Nat.{ℕ, ◌+◌, ◌<◌, ◌≤◌}
use native.Mathlib.Omega.{arith}
use mathlib.Core.Path.{◌≡◌, refl, sym}
use mathlib.Core.Logic.{◌⊎◌, inl, inr, ⊎_elim}
use mathlib.Core.Bool.{Bool, true, false, ◌&&◌, ◌||◌, true≢false}
use mathlib.Core.List.{List}
use lib.ListN.{length, get_or-eq_default}
use lib.Dec.{eqb, ltb}
use borrow.Author.Tests.{lt-ltb, ltb-true, ltb-false, eqb-true, eqb-false}
use mir.Val.{bool_byte}
use Rattle.luck_text.specs.Bytes.{when◌then◌else◌, byte_at}

-- what holds of both branches holds of the choice
pub by_test : {A : Type 0} (P : A → Type 0) (b : Bool) (x y : A) → (b ≡ true → P x) → (b ≡ false → P y) → P (when b then x else y)
unfolding when◌then◌else◌
by_test P true x y f g = f refl
by_test P false x y f g = g refl

pub if_true : {A : Type 0} (b : Bool) (x y : A) → b ≡ true → (when b then x else y) ≡ x
unfolding when◌then◌else◌
if_true b x y e = rw e

pub if_false : {A : Type 0} (b : Bool) (x y : A) → b ≡ false → (when b then x else y) ≡ y
unfolding when◌then◌else◌
if_false b x y e = rw e

pub and_left : (a b : Bool) → (a && b) ≡ true → a ≡ true
and_left true b e = refl
and_left false b e = e

pub and_right : (a b : Bool) → (a && b) ≡ true → b ≡ true
and_right true b e = e
and_right false b e = absurd (true≢false (sym e))

pub both_true : (a b : Bool) → a ≡ true → b ≡ true → (a && b) ≡ true
both_true a b e f = rw (e, f)

pub first_false : (a b : Bool) → a ≡ false → (a && b) ≡ false
first_false a b e = rw e

pub second_false : (a b : Bool) → b ≡ false → (a && b) ≡ false
second_false true b e = e
second_false false b e = refl

-- one of the two, with its proof
pub order : (a b : ℕ) → (a < b) ⊎ (b ≤ a)
order a b = go (ltb a b) refl
  where
    go : (t : Bool) → ltb a b ≡ t → (a < b) ⊎ (b ≤ a)
    go true e = inl (ltb-true a b e)
    go false e = inr (ltb-false a b e)

pub same : (a b : ℕ) → (a ≡ b) ⊎ (a ≡ b → ⊥)
same a b = go (eqb a b) refl
  where
    go : (t : Bool) → eqb a b ≡ t → (a ≡ b) ⊎ (a ≡ b → ⊥)
    go true e = inl (eqb-true a b e)
    go false e = inr (eqb-false a b e)

-- a byte that is not 0 is there
pub present : (text : List ℕ) (p : ℕ) → 0 < byte_at text p → p < length text
present text p h =
    ⊎_elim (λ l. l)
    (λ g. let e = get_or-eq_default text 0 g in absurd (omega arith)) (order p (length text))

-- ---- Sums of tests

pub bit : (b : Bool) → bool_byte b ≤ 1
bit true = omega arith
bit false = omega arith

-- a sum of three is above 0 where one of them is true
pub any_of_three : (a b c : Bool) → ltb 0 (bool_byte a + bool_byte b + bool_byte c) ≡ (a || b || c)
any_of_three true b c = lt-ltb 0 (bool_byte true + bool_byte b + bool_byte c) (omega arith)
any_of_three false true c = lt-ltb 0 (bool_byte false + bool_byte true + bool_byte c) (omega arith)
any_of_three false false true = refl
any_of_three false false false = refl
