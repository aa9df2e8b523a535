-- No byte below 80 (hexadecimal) follows the first one of a character: so what stands before such a byte, a character or the end of one, is one byte wide.
-- Assumes nothing.
use Rattle.std.specs.Prelude.{Option}
use Prim.Native.Nat.{ℕ, suc, ◌+◌, ◌≤◌, ◌<◌}
use native.Mathlib.Omega.{arith}
use mathlib.Core.Path.{◌≡◌, refl}
use mathlib.Core.Bool.{Bool, true, false, ◌&&◌}
use mathlib.Core.List.{List, [], ◌∷◌}
use lib.ListN.{length}
use lib.Dec.{eqb, leb, ltb}
use borrow.Author.Tests.{leb-true, eqb-false}
use Rattle.luck_text.specs.Bytes.{when◌then◌else◌, byte_at}
use Rattle.luck_text.proofs.Cases.{by_test, and_left, and_right}
use Rattle.luck_utf8.specs.Utf8.{Range, Row, rfc3629, in_range, tails_of, follow, width_by, sequence, char_at}

-- the ranges that follow a first byte begin at 80, in each row
abbrev High : List Range → Type 0
High [] = Unit {0}
High (r ∷ ranges) = 0x80 ≤ r.low

abbrev AllHigh : List Row → Type 0
AllHigh [] = Unit {0}
AllHigh (r ∷ rows) = High r.tails × AllHigh rows

all_high : AllHigh rfc3629
unfolding rfc3629
all_high =
    (tt, (omega arith, (omega arith, (omega arith, (omega arith, (omega arith, (omega arith, (omega arith, (omega arith, tt)))))))))

module _ (text : List ℕ) (p : ℕ) (low : byte_at text (p + 1) < 0x80) where
  at_most_one : (tails : List Range) → High tails → (when follow text (p + 1) tails then suc (length tails) else 0) ≤ 1
  unfolding follow when◌then◌else◌
  at_most_one [] h = omega arith
  at_most_one (r ∷ ranges) h =
      by_test (λ (w : ℕ). w ≤ 1) (follow text (p + 1) (r ∷ ranges)) _ _
      (λ t.
      let b = byte_at text (p + 1) in
      let first = and_left (ltb (p + 1) (length text) && in_range r b) (follow text (p + 1 + 1) ranges) t in
      let inside = and_right (ltb (p + 1) (length text)) (in_range r b) first in
      absurd (omega (arith, leb-true r.low b (and_left (leb r.low b) (leb b r.high) inside))))
      (λ t. omega arith)

  by_rows : (rows : List Row) → AllHigh rows → (b : ℕ) → width_by text p (tails_of rows b) ≤ 1
  unfolding tails_of width_by
  by_rows [] h b = omega arith
  by_rows (r ∷ rows) h b =
      by_test (λ (o : Option (List Range)). width_by text p o ≤ 1) (in_range r.lead b) _ _ (λ t. at_most_one r.tails h.0) (λ t. by_rows rows h.1 b)

  narrow : sequence text p ≤ 1
  unfolding sequence
  narrow = by_test (λ (w : ℕ). w ≤ 1) (ltb p (length text)) _ _ (λ t. by_rows rfc3629 all_high (byte_at text p)) (λ t. omega arith)

  pub one_wide : (char_at text p).width ≡ 1
  unfolding char_at
  one_wide = go (eqb (sequence text p) 0) refl
    where
      go : (b : Bool) → eqb (sequence text p) 0 ≡ b → (char_at text p).width ≡ 1
      go true e = rw e (unfold when◌then◌else◌ in refl)
      go false e = rw e (unfold when◌then◌else◌ in (let n = eqb-false (sequence text p) 0 e in omega (arith, narrow)))
