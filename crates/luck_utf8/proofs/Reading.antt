-- The bytes of a character, where they stand in a text, are read as it.
-- Assumes nothing.
use Rattle.std.specs.Prelude.{Some}
use mathlib.Core.Path.{◌≡◌, refl, sym, ap, ◌∙◌}
use mathlib.Core.Bool.{true}
use mathlib.Core.List.{List, [], ◌∷◌, ◌++◌}
use Prim.Native.Nat.{ℕ, suc, ◌+◌, ◌/◌, ◌%◌, ◌<◌, ◌≤◌}
use native.Mathlib.Nat.{add-zero}
use native.Mathlib.Omega.{arith}
use lib.ListN.{length, length-append, get_or-append}
use lib.Seq.{get_or-append-add}
use borrow.Author.Tests.{lt-ltb}
use Rattle.luck_text.specs.Bytes.{when◌then◌else◌, byte_at}
use Rattle.luck_text.proofs.Cases.{both_true}
use Rattle.luck_text.proofs.Bytes.{within}
use Rattle.luck_utf8.specs.Utf8.{Range, tail, rfc3629, tails_of, follow, sequence, char_at, is_char, six_bits, utf8_bytes}
use Rattle.luck_utf8.proofs.Sequences.{row_two, row_three, row_four, sequence_accepted, sequence_ascii}
use Rattle.luck_utf8.proofs.Sequences.{char_one, char_two, char_three, char_four}
use Rattle.luck_utf8.proofs.CodePoints.{by_order, not_both, is_surrogate, char_below, by_row}

-- The bytes stand in a text from a place on.
pub record Stand (text : List ℕ) (p : ℕ) (bytes : List ℕ) : Type 0 where
  pub inside : p + length bytes ≤ length text
  pub byte : (k : ℕ) → k < length bytes → byte_at text (p + k) ≡ byte_at bytes k

pub stands : (before bytes after : List ℕ) → Stand (before ++ bytes ++ after) (length before) bytes
stands before bytes after =
    let all = before ++ bytes in
    let long = length-append before bytes in record {
      inside = omega (arith, length-append all after);
      byte = λ k h. get_or-append all after 0 (length before + k) (omega arith) ∙ get_or-append-add before bytes k 0;
    }

-- each byte is in its range
abbrev In : List Range → List ℕ → Type 0
In [] bytes = Unit {0}
In (r ∷ ranges) [] = ⊥
In (r ∷ ranges) (b ∷ bytes) = (r.low ≤ b) × (b ≤ r.high) × In ranges bytes

module _ (text : List ℕ) (p : ℕ) {b : ℕ} {bytes : List ℕ} (s : Stand text p (b ∷ bytes)) where
  pub first : byte_at text p ≡ b
  first = rw (add-zero p) at (s.byte 0 (omega arith))

  rest : Stand text (p + 1) bytes
  rest = record {
    inside = omega (arith, s.inside);
    byte = λ k h. let q : p + suc k ≡ p + 1 + k = omega arith in rw q at (s.byte (suc k) (omega arith));
  }

module _ (text : List ℕ) where
  followed : (ranges : List Range) (bytes : List ℕ) (p : ℕ) → Stand text p bytes → In ranges bytes
      → follow text p ranges ≡ true
  unfolding follow
  followed [] bytes p s i = refl
  followed (r ∷ ranges) [] p s i = absurd i
  followed (r ∷ ranges) (b ∷ bytes) p s i =
      let here = first text p s in
      let there = lt-ltb p (length text) (omega (arith, s.inside)) in
      let ranged = within r.low r.high (byte_at text p) (omega (arith, i.0)) (omega (arith, i.1)) in
      both_true _ _ (both_true _ _ there ranged) (followed ranges bytes (p + 1) (rest text p s) i.2)

  accepted : (p : ℕ) {b : ℕ} {bytes : List ℕ} {ranges : List Range} → Stand text p (b ∷ bytes)
      → tails_of rfc3629 b ≡ Some ranges → In ranges bytes → sequence text p ≡ suc (length ranges)
  accepted p {b} {bytes} {ranges} s row i =
      sequence_accepted text p ranges (omega (arith, s.inside)) (ap (tails_of rfc3629) (first text p s) ∙ row)
      (followed ranges bytes (p + 1) (rest text p s) i)

-- A character's bytes, by their number.
pub record Read (text : List ℕ) (p c w : ℕ) : Type 0 where
  pub wide : sequence text p ≡ w
  pub char : char_at text p ≡ record { code = c; width = w }

module _ (text : List ℕ) (p c : ℕ) where
  one : Stand text p (c ∷ []) → c < 0x80 → Read text p c 1
  one s h =
      let i = s.inside in
      let b = first text p s in
      let w = sequence_ascii text p (omega arith) (omega arith) in
      record { wide = w; char = sym (char_one text p 1 (sym w) c refl (sym b)) }

  two : Stand text p (six_bits 0xC0 1 c []) → 0x80 ≤ c → c < 0x800 → Read text p c 2
  unfolding six_bits
  two s l h =
      let b₀ = first text p s in
      let b₁ = s.byte 1 (omega arith) in
      let w = accepted text p s (row_two (0xC0 + c / 0x40) (omega arith) (omega arith)) (omega arith) in
      record { wide = w; char = sym (char_two text p 2 (sym w) c refl (omega arith)) }

  module _ (s : Stand text p (six_bits 0xE0 2 c [])) where
    -- the first byte's row has a range that the second byte is in
    row_of_three : {r : Range} → tails_of rfc3629 (0xE0 + c / 0x40 / 0x40) ≡ Some (r ∷ tail ∷ [])
        → (r.low ≤ 0x80 + c / 0x40 % 0x40) × (0x80 + c / 0x40 % 0x40 ≤ r.high) → Read text p c 3
    unfolding six_bits
    row_of_three row i =
        let b₀ = first text p s in
        let b₁ = s.byte 1 (omega arith) in
        let b₂ = s.byte 2 (omega arith) in
        let w = accepted text p s row (omega arith) in
        record { wide = w; char = sym (char_three text p 3 (sym w) c (c / 0x40) refl (omega arith) (omega arith)) }

    three : 0x800 ≤ c → c < 0x10000 → is_char c ≡ true → Read text p c 3
    unfolding rfc3629 tails_of when◌then◌else◌
    three l h e =
        let b = 0xE0 + c / 0x40 / 0x40 in
        by_order c 0x1000 (λ h₀. let e₀ : b ≡ 0xE0 = omega arith in row_of_three (ap (tails_of rfc3629) e₀) (omega arith))
        (λ l₀.
        let others : (b ≡ 0xED → ⊥) → Read text p c 3 =
        λ f. row_of_three (row_three b (omega arith) (omega arith) f (omega arith)) (omega arith) in
        by_order c 0xD000 (λ h₁. others (omega arith)) (λ l₁.
        by_order c 0xD800 (λ h₂. let e₂ : b ≡ 0xED = omega arith in row_of_three (ap (tails_of rfc3629) e₂) (omega arith))
        (λ l₂.
        by_order c 0xE000 (λ h₃. absurd (not_both e (is_surrogate c l₂ h₃))) (λ l₃. others (omega arith)))))

  module _ (s : Stand text p (six_bits 0xF0 3 c [])) where
    row_of_four : {r : Range} → tails_of rfc3629 (0xF0 + c / 0x40 / 0x40 / 0x40) ≡ Some (r ∷ tail ∷ tail ∷ [])
        → (r.low ≤ 0x80 + c / 0x40 / 0x40 % 0x40) × (0x80 + c / 0x40 / 0x40 % 0x40 ≤ r.high) → Read text p c 4
    unfolding six_bits
    row_of_four row i =
        let b₀ = first text p s in
        let b₁ = s.byte 1 (omega arith) in
        let b₂ = s.byte 2 (omega arith) in
        let b₃ = s.byte 3 (omega arith) in
        let w = accepted text p s row (omega arith) in
        let high = c / 0x40 / 0x40 in
        let r = char_four text p 4 (sym w) c high (c / 0x40) (omega arith) (omega arith) (omega arith) (omega arith) in
        record { wide = w; char = sym r }

    four : 0x10000 ≤ c → c < 0x110000 → Read text p c 4
    unfolding rfc3629 tails_of when◌then◌else◌
    four l h =
        let b = 0xF0 + c / 0x40 / 0x40 / 0x40 in
        by_order c 0x40000 (λ h₀. let e₀ : b ≡ 0xF0 = omega arith in row_of_four (ap (tails_of rfc3629) e₀) (omega arith))
        (λ l₀.
        by_order c 0x100000
        (λ h₁. row_of_four (row_four b (omega arith) (omega arith) (omega arith) (omega arith)) (omega arith))
        (λ l₁. let e₁ : b ≡ 0xF4 = omega arith in row_of_four (ap (tails_of rfc3629) e₁) (omega arith)))

  pub read : is_char c ≡ true → Stand text p (utf8_bytes c) → Read text p c (length (utf8_bytes c))
  unfolding six_bits
  read e =
      let bound = char_below c e in
      by_row c (λ (bytes : List ℕ). Stand text p bytes → Read text p c (length bytes))
      (λ h s. one s h) (λ l h s. two s l h) (λ l h s. three s l h e) (λ l h s. four s l bound)
      (λ l h s. absurd (omega arith)) (λ l h s. absurd (omega arith)) (λ h s. absurd (omega arith))
