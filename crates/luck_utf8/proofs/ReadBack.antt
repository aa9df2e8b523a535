-- A reader of the original scheme, by the marks of RFC 2279: it gives back a code point and what stands behind its
-- bytes, so that these belong to no other.
-- Assumes nothing.
use mathlib.Core.Path.{◌≡◌, sym, ap, ap₂, ◌∙◌}
use mathlib.Core.List.{List, [], ◌∷◌, ◌++◌}
use Prim.Native.Nat.{ℕ, zero, suc, ◌+◌, ◌*◌, ◌-◌, ◌/◌, ◌%◌, ◌<◌, ◌≤◌}
use native.Mathlib.Nat.{sub-zero}
use native.Mathlib.Omega.{arith}
use lib.Dec.{ltb}
use borrow.Author.Tests.{lt-ltb, le-ltb}
use Rattle.luck_text.specs.Bytes.{when◌then◌else◌, byte_at}
use Rattle.luck_utf8.specs.Utf8.{last_code, six_bits, utf8_bytes}
use Rattle.luck_utf8.proofs.CodePoints.{six_bits_append, by_row}

-- bits, and so many bytes of six bits: the code point, and what is left
read_tails : ℕ → ℕ → List ℕ → ℕ × List ℕ
read_tails zero bits rest = (bits, rest)
read_tails (suc n) bits [] = (bits, [])
read_tails (suc n) bits (b ∷ rest) = read_tails n (bits * 0x40 + (b - 0x80)) rest

read_row : ℕ → ℕ → List ℕ → ℕ × List ℕ
read_row mark n [] = (0, [])
read_row mark n (b ∷ rest) = read_tails n (b - mark) rest

-- by the first byte
read_by : ℕ → List ℕ → ℕ × List ℕ
read_by b bytes =
    when ltb b 0x80 then read_row 0x00 0 bytes
    else when ltb b 0xE0 then read_row 0xC0 1 bytes
    else when ltb b 0xF0 then read_row 0xE0 2 bytes
    else when ltb b 0xF8 then read_row 0xF0 3 bytes
    else when ltb b 0xFC then read_row 0xF8 4 bytes
    else read_row 0xFC 5 bytes

module _ (b : ℕ) (bytes : List ℕ) where
  by_one : b < 0x80 → read_by b bytes ≡ read_row 0x00 0 bytes
  unfolding read_by when◌then◌else◌
  by_one h = rw (lt-ltb b 0x80 h)

  by_two : 0x80 ≤ b → b < 0xE0 → read_by b bytes ≡ read_row 0xC0 1 bytes
  unfolding read_by when◌then◌else◌
  by_two l h = rw (le-ltb b 0x80 l, lt-ltb b 0xE0 h)

  by_three : 0xE0 ≤ b → b < 0xF0 → read_by b bytes ≡ read_row 0xE0 2 bytes
  unfolding read_by when◌then◌else◌
  by_three l h = rw (le-ltb b 0x80 (omega arith), le-ltb b 0xE0 l, lt-ltb b 0xF0 h)

  by_four : 0xF0 ≤ b → b < 0xF8 → read_by b bytes ≡ read_row 0xF0 3 bytes
  unfolding read_by when◌then◌else◌
  by_four l h = rw (le-ltb b 0x80 (omega arith), le-ltb b 0xE0 (omega arith), le-ltb b 0xF0 l, lt-ltb b 0xF8 h)

  by_five : 0xF8 ≤ b → b < 0xFC → read_by b bytes ≡ read_row 0xF8 4 bytes
  unfolding read_by when◌then◌else◌
  by_five l h =
      rw (le-ltb b 0x80 (omega arith), le-ltb b 0xE0 (omega arith), le-ltb b 0xF0 (omega arith))
      (rw (le-ltb b 0xF8 l, lt-ltb b 0xFC h))

  by_six : 0xFC ≤ b → read_by b bytes ≡ read_row 0xFC 5 bytes
  unfolding read_by when◌then◌else◌
  by_six l =
      rw (le-ltb b 0x80 (omega arith), le-ltb b 0xE0 (omega arith), le-ltb b 0xF0 (omega arith))
      (rw (le-ltb b 0xF8 (omega arith), le-ltb b 0xFC l))

-- of k bytes of six bits n are read back, and m are left to read
tails_back : (mark k n m c : ℕ) (after : List ℕ) → k ≡ n + m
    → read_row mark k (six_bits mark n c after) ≡ read_tails m c after
unfolding six_bits read_row read_tails
tails_back mark k zero m c after e =
    let same : k ≡ m = omega arith in
    let bits : mark + c - mark ≡ c = omega arith in
    ap₂ (λ (x y : ℕ). read_tails x y after) same bits
tails_back mark k (suc n) m c after e =
    let bits : c / 0x40 * 0x40 + (0x80 + c % 0x40 - 0x80) ≡ c = omega arith in
    tails_back mark k n (suc m) (c / 0x40) ((0x80 + c % 0x40) ∷ after) (omega arith)
    ∙ ap (λ (x : ℕ). read_tails m x after) bits

read_code : List ℕ → ℕ × List ℕ
read_code bytes = read_by (byte_at bytes 0) bytes

module _ (c : ℕ) (after : List ℕ) where
  -- the bytes of a row that the reader goes by
  row_back : (mark n : ℕ) → read_code (six_bits mark n c after) ≡ read_row mark n (six_bits mark n c after)
      → read_code (six_bits mark n c [] ++ after) ≡ (c, after)
  unfolding read_tails
  row_back mark n e =
      ap read_code (sym (six_bits_append mark n c [] after)) ∙ e ∙ tails_back mark n n 0 c after (omega arith)

  read_back : c ≤ last_code → read_code (utf8_bytes c ++ after) ≡ (c, after)
  unfolding six_bits read_code read_row read_tails
  read_back last =
      by_row c (λ (bytes : List ℕ). read_code (bytes ++ after) ≡ (c, after))
      (λ h. by_one _ _ h ∙ rw (sub-zero c))
      (λ l h. row_back 0xC0 1 (by_two _ _ (omega arith) (omega arith)))
      (λ l h. row_back 0xE0 2 (by_three _ _ (omega arith) (omega arith)))
      (λ l h. row_back 0xF0 3 (by_four _ _ (omega arith) (omega arith)))
      (λ l h. row_back 0xF8 4 (by_five _ _ (omega arith) (omega arith)))
      (λ l h. row_back 0xFC 5 (by_six _ _ (omega arith)))
      (λ h. absurd (omega arith))

pub same_code : (c d : ℕ) → c ≤ last_code → d ≤ last_code → (x y : List ℕ)
    → utf8_bytes c ++ x ≡ utf8_bytes d ++ y → (c ≡ d) × (x ≡ y)
same_code c d lc ld x y e =
    let both = sym (read_back c x lc) ∙ ap read_code e ∙ read_back d y ld in
    (ap (λ (r : ℕ × List ℕ). r.0) both, ap (λ (r : ℕ × List ℕ). r.1) both)
