-- Laws of equal parts of the subject and of balanced pairs, one byte at a time, and of the byte before a place.
-- Assumes nothing.
use Rattle.std.specs.Prelude.{Option, None, Some}
use Prim.Native.Nat.{ℕ, zero, suc, ◌+◌, ◌-◌, ◌<◌, ◌≤◌}
use native.Mathlib.Omega.{arith}
use native.Mathlib.Numerals.{add-one}
use mathlib.Core.Path.{◌≡◌, refl, ap, ◌∙◌}
use mathlib.Core.Bool.{Bool, ◌&&◌}
use mathlib.Core.List.{List}
use lib.ListN.{length, take, drop}
use lib.Seq.{drop-cons}
use lib.Pointwise.{pointwise}
use lib.Dec.{eqb}
use borrow.Author.Tests.{lt-ltb, le-ltb, eq-eqb, ne_eqb}
use Rattle.luck_text.specs.Bytes.{when◌then◌else◌, byte_at}
use Rattle.lstr_class.specs.Subject.{same_bytes, balance_end, match_balance, byte_before}

-- ---- Equal parts

pub same_as_slices : (sub : List ℕ) (n a b : ℕ) → a + n ≤ length sub → b + n ≤ length sub
    → pointwise eqb (take n (drop a sub)) (take n (drop b sub)) ≡ same_bytes sub n a b
unfolding same_bytes
same_as_slices sub zero a b h k = refl
same_as_slices sub (suc n) a b h k =
    let at_a : a < length sub = omega arith in
    let at_b : b < length sub = omega arith in
    rw (drop-cons sub a 0, drop-cons sub b 0, add-one a, add-one b)
    (ap (λ (e : Bool). eqb (byte_at sub a) (byte_at sub b) && e) (same_as_slices sub n (suc a) (suc b) (omega arith) (omega arith)))

-- the code's ranges end at a sum
pub same_as_ranges : (sub : List ℕ) (n a b : ℕ) (r : Bool) → a + n ≤ length sub → b + n ≤ length sub
    → r ≡ pointwise eqb (take (a + n - a) (drop a sub)) (take (b + n - b) (drop b sub)) → r ≡ same_bytes sub n a b
same_as_ranges sub n a b r h k e =
    let f : a + n - a ≡ n = omega arith in
    let g : b + n - b ≡ n = omega arith in
    (rw (f, g) at e) ∙ same_as_slices sub n a b h k

-- ---- Balanced pairs

module _ (sub : List ℕ) (x y : ℕ) where
  -- what the bytes from place i on give, inside d of x
  abbrev pub balance_from : ℕ → ℕ → Option ℕ
  balance_from i d = balance_end sub x y (length sub - i) d i

  pub balance_none : (i d : ℕ) → length sub ≤ i → balance_from i d ≡ None
  unfolding balance_end
  balance_none i d h = let e : length sub - i ≡ 0 = omega arith in rw e

  module _ (i d : ℕ) (h : i < length sub) where
    byte_left : length sub - i ≡ suc (length sub - (i + 1))
    byte_left = omega arith

    pub balance_ends : byte_at sub i ≡ y → d ≡ 1 → balance_from i d ≡ Some (i + 1)
    unfolding balance_end when◌then◌else◌
    balance_ends e f = rw (byte_left, eq-eqb (byte_at sub i) y e, eq-eqb d 1 f)

    pub balance_closes : byte_at sub i ≡ y → (d ≡ 1 → ⊥) → balance_from i d ≡ balance_from (i + 1) (d - 1)
    unfolding balance_end when◌then◌else◌
    balance_closes e f = rw (byte_left, eq-eqb (byte_at sub i) y e, ne_eqb d 1 f)

    pub balance_opens : (byte_at sub i ≡ y → ⊥) → byte_at sub i ≡ x → balance_from i d ≡ balance_from (i + 1) (d + 1)
    unfolding balance_end when◌then◌else◌
    balance_opens e f = rw (byte_left, ne_eqb (byte_at sub i) y e, eq-eqb (byte_at sub i) x f)

    pub balance_passes : (byte_at sub i ≡ y → ⊥) → (byte_at sub i ≡ x → ⊥) → balance_from i d ≡ balance_from (i + 1) d
    unfolding balance_end when◌then◌else◌
    balance_passes e f = rw (byte_left, ne_eqb (byte_at sub i) y e, ne_eqb (byte_at sub i) x f)

  pub no_byte : (s : ℕ) → length sub ≤ s → match_balance sub x y s ≡ None
  unfolding match_balance when◌then◌else◌
  no_byte s h = rw (le-ltb s (length sub) h)

  pub other_byte : (s : ℕ) → s < length sub → (byte_at sub s ≡ x → ⊥) → match_balance sub x y s ≡ None
  unfolding match_balance when◌then◌else◌
  other_byte s h e = rw (lt-ltb s (length sub) h, ne_eqb (byte_at sub s) x e)

  pub balance_starts : (s : ℕ) → s < length sub → byte_at sub s ≡ x → match_balance sub x y s ≡ balance_from (s + 1) 1
  unfolding match_balance when◌then◌else◌
  balance_starts s h e = rw (lt-ltb s (length sub) h, eq-eqb (byte_at sub s) x e)

-- ---- The byte before a place

module _ (sub : List ℕ) where
  pub before_first : (s : ℕ) → s ≡ 0 → 0 ≡ byte_before sub s
  unfolding byte_before
  before_first zero e = refl
  before_first (suc s) e = absurd (omega arith)

  pub before_later : (s : ℕ) → (s ≡ 0 → ⊥) → byte_at sub (s - 1) ≡ byte_before sub s
  unfolding byte_before
  before_later zero e = absurd (e refl)
  before_later (suc s) e = let f : suc s - 1 ≡ s = omega arith in ap (byte_at sub) f
