-- The bytes of a code point that has no character, where they stand in a text: a well-formed sequence begins at none.
-- Assumes nothing.
use Rattle.std.specs.Prelude.{Some}
use mathlib.Core.Path.{◌≡◌, ap, ◌∙◌}
use mathlib.Core.Bool.{false}
use mathlib.Core.List.{List, [], ◌∷◌}
use Prim.Native.Nat.{ℕ, zero, suc, ◌+◌, ◌/◌, ◌%◌, ◌<◌, ◌≤◌}
use native.Mathlib.Nat.{add-zero}
use native.Mathlib.Omega.{arith}
use lib.ListN.{length}
use Rattle.luck_text.specs.Bytes.{when◌then◌else◌, byte_at}
use Rattle.luck_text.proofs.Bytes.{above}
use Rattle.luck_utf8.specs.Utf8.{Range, rfc3629, tails_of, sequence, is_char, six_bits, utf8_bytes}
use Rattle.luck_utf8.proofs.Sequences.{no_row_low, no_row_high, follow_out, sequence_none, sequence_refused}
use Rattle.luck_utf8.proofs.CodePoints.{by_order, not_low, below_high, above_high, by_row}
use Rattle.luck_utf8.proofs.Reading.{Stand, first}

-- a byte after the first is in no row
abbrev Tail : ℕ → Type 0
Tail b = (0x80 ≤ b) × (b < 0xC0)

tail_bytes : (mark n c : ℕ) (after : List ℕ) → ((k : ℕ) → k < length after → Tail (byte_at after k))
    → (k : ℕ) → suc k < length (six_bits mark n c after) → Tail (byte_at (six_bits mark n c after) (suc k))
unfolding six_bits
tail_bytes mark zero c after f k h = f k (omega arith)
tail_bytes mark (suc n) c after f k h = tail_bytes mark n (c / 0x40) ((0x80 + c % 0x40) ∷ after) more k h
  where
    more : (j : ℕ) → j < length ((0x80 + c % 0x40) ∷ after) → Tail (byte_at ((0x80 + c % 0x40) ∷ after) j)
    more zero g = (omega arith, omega arith)
    more (suc j) g = f j (omega arith)

module _ (text : List ℕ) (p : ℕ) where
  each_refused : (mark n c : ℕ) → Stand text p (six_bits mark n c []) → sequence text p ≡ 0
      → (k : ℕ) → k < length (six_bits mark n c []) → sequence text (p + k) ≡ 0
  each_refused mark n c s z zero h = rw (add-zero p) z
  each_refused mark n c s z (suc k) h =
      let b = s.byte (suc k) h in
      let t = tail_bytes mark n c [] (λ j g. absurd (omega arith)) k h in
      let none = no_row_low (byte_at text (p + suc k)) (omega arith) (omega arith) in
      sequence_none text (p + suc k) (omega (arith, s.inside)) none

  -- the first byte: above all rows, or with a second byte above the range of its row
  too_high : {b : ℕ} {bytes : List ℕ} → Stand text p (b ∷ bytes) → 0xF5 ≤ b → sequence text p ≡ 0
  too_high s l =
      let i = s.inside in
      let e = first text p s in
      sequence_none text p (omega arith) (no_row_high (byte_at text p) (omega arith))

  second_high : {b b₁ : ℕ} {bytes : List ℕ} {r : Range} {ranges : List Range} → Stand text p (b ∷ b₁ ∷ bytes)
      → tails_of rfc3629 b ≡ Some (r ∷ ranges) → r.high < b₁ → sequence text p ≡ 0
  second_high {r} {ranges} s row h =
      let e₁ = s.byte 1 (omega arith) in
      let out = follow_out text p 1 r ranges (above r.low r.high (byte_at text (p + 1)) (omega arith)) in
      sequence_refused text p (r ∷ ranges) (omega (arith, s.inside)) (ap (tails_of rfc3629) (first text p s) ∙ row) out

  module _ (c : ℕ) where
    surrogate : Stand text p (six_bits 0xE0 2 c []) → 0xD800 ≤ c → c < 0xE000 → sequence text p ≡ 0
    unfolding six_bits rfc3629 tails_of when◌then◌else◌
    surrogate s l h =
        let e : 0xE0 + c / 0x40 / 0x40 ≡ 0xED = omega arith in
        second_high s (ap (tails_of rfc3629) e) (omega arith)

    large : Stand text p (six_bits 0xF0 3 c []) → 0x110000 ≤ c → sequence text p ≡ 0
    unfolding six_bits rfc3629 tails_of when◌then◌else◌
    large s l =
        let b = 0xF0 + c / 0x40 / 0x40 / 0x40 in
        by_order c 0x140000
        (λ h. let e : b ≡ 0xF4 = omega arith in second_high s (ap (tails_of rfc3629) e) (omega arith))
        (λ g. too_high s (omega arith))

    pub refused : is_char c ≡ false → Stand text p (utf8_bytes c) → (k : ℕ) → k < length (utf8_bytes c)
        → sequence text (p + k) ≡ 0
    unfolding six_bits
    refused e =
        let low = not_low c e in
        by_row c (λ (bytes : List ℕ). Stand text p bytes → (k : ℕ) → k < length bytes → sequence text (p + k) ≡ 0)
        (λ h s. absurd (omega arith)) (λ l h s. absurd (omega arith))
        (λ l h s. each_refused 0xE0 2 c s (surrogate s low (below_high c e (omega arith))))
        (λ l h s. each_refused 0xF0 3 c s (large s (above_high c e (omega arith))))
        (λ l h s. each_refused 0xF8 4 c s (too_high s (omega arith)))
        (λ l h s. each_refused 0xFC 5 c s (too_high s (omega arith)))
        (λ h s k g. absurd (omega arith))
