-- What is promised of a code point's bytes. `utf8_bytes`, `is_char`, `sequence`, `ill_formed` and `char_at` are in
-- specs/Utf8.antt.
-- Assumes nothing.
use Rattle.std.specs.Prelude.{None, Some}
use mathlib.Core.Path.{◌≡◌, refl, sym, ap, ◌∙◌}
use mathlib.Core.Bool.{true, false}
use mathlib.Core.List.{List, [], ◌∷◌, ◌++◌, append_assoc, append-nil}
use Prim.Native.Nat.{ℕ, ◌+◌, ◌/◌, ◌%◌, ◌<◌, ◌≤◌}
use native.Mathlib.Nat.{add-zero, div-div-eq-div-mul}
use native.Mathlib.Omega.{arith}
use lib.ListN.{length, length-append}
use lib.Dec.{leb, ltb}
use borrow.Author.Tests.{lt-ltb, le-ltb}
use Rattle.luck_text.specs.Bytes.{when◌then◌else◌}
use Rattle.luck_utf8.specs.Utf8.{sequence, ill_formed, char_at, is_char, rfc2279, last_code, six_bits, utf8_bytes}
use Rattle.luck_utf8.proofs.Sequences.{walk_ill_formed, walk_sequence}
use Rattle.luck_utf8.proofs.Parts.{walk_at, walk_past, at_end}
use Rattle.luck_utf8.proofs.CodePoints.{char_below, by_row, some_byte, length_by}
use Rattle.luck_utf8.proofs.Reading.{stands, read}
use Rattle.luck_utf8.proofs.Refused.{refused}
use Rattle.luck_utf8.proofs.ReadBack.{same_code}

-- the definition before F-4, which RFC 3629 has for characters: up to four bytes
abbrev pub former_bytes : ℕ → List ℕ
former_bytes c =
    when ltb c 0x80 then c ∷ []
    else when ltb c 0x800 then (0xC0 + c / 0x40) ∷ (0x80 + c % 0x40) ∷ []
    else when ltb c 0x10000 then (0xE0 + c / 0x1000) ∷ (0x80 + c / 0x40 % 0x40) ∷ (0x80 + c % 0x40) ∷ []
    else (0xF0 + c / 0x40000) ∷ (0x80 + c / 0x1000 % 0x40) ∷ (0x80 + c / 0x40 % 0x40) ∷ (0x80 + c % 0x40) ∷ []

module _ (c : ℕ) where
  -- How many bytes a code point has; a number above 7FFFFFFF has none.
  pub lengths : length (utf8_bytes c) ≡
      (when leb c 0x7F then 1 else when leb c 0x7FF then 2 else when leb c 0xFFFF then 3
      else when leb c 0x1F_FFFF then 4 else when leb c 0x3FF_FFFF then 5 else when leb c 0x7FFF_FFFF then 6 else 0)
  unfolding utf8_bytes rfc2279
  lengths = length_by c rfc2279

  -- Up to 1FFFFF the bytes are those of before F-4.
  pub as_before : c ≤ 0x1F_FFFF → utf8_bytes c ≡ former_bytes c
  unfolding six_bits when◌then◌else◌
  as_before last =
      by_row c (λ (bytes : List ℕ). bytes ≡ former_bytes c)
      (λ h. rw (lt-ltb c 0x80 h))
      (λ l h. rw (le-ltb c 0x80 l, lt-ltb c 0x800 h))
      (λ l h. rw (le-ltb c 0x80 (omega arith), le-ltb c 0x800 l, lt-ltb c 0x10000 h, div-div-eq-div-mul c 0x40 0x40))
      (λ l h.
      rw (le-ltb c 0x80 (omega arith), le-ltb c 0x800 (omega arith), le-ltb c 0x10000 l)
      (rw (div-div-eq-div-mul c 0x40 0x40, div-div-eq-div-mul c 0x1000 0x40)))
      (λ l h. absurd (omega arith)) (λ l h. absurd (omega arith)) (λ h. absurd (omega arith))

  -- A character's bytes are read as the character, wherever they stand in a text.
  pub reads_back : is_char c ≡ true → (before after : List ℕ)
      → char_at (before ++ utf8_bytes c ++ after) (length before) ≡ record { code = c; width = length (utf8_bytes c) }
  reads_back e before after = (read _ (length before) c e (stands before (utf8_bytes c) after)).char

  -- Behind a well-formed text they make a well-formed text.
  pub well_formed : is_char c ≡ true → (before : List ℕ) → ill_formed before ≡ None
      → ill_formed (before ++ utf8_bytes c) ≡ None
  unfolding ill_formed
  well_formed e before f =
      let bytes = utf8_bytes c in
      let text = before ++ bytes in
      let s = rw (append-nil text) at (stands before bytes []) in
      let more = some_byte c (omega (arith, char_below c e)) in
      let end : length before + length bytes ≡ length text = sym (length-append before bytes) in
      let w = (read text (length before) c e s).wide in
      walk_past before bytes f
      ∙ walk_sequence text (length before) (length bytes) (sym w) (λ z. omega arith) s.inside
      ∙ ap (walk_at text) end ∙ at_end text

  -- Any other code point, a surrogate or one above 10FFFF, is ill-formed at each of its bytes.
  pub ill_formed_lem : is_char c ≡ false → (before after : List ℕ) (k : ℕ) → k < length (utf8_bytes c)
      → sequence (before ++ utf8_bytes c ++ after) (length before + k) ≡ 0
  ill_formed_lem e before after = refused _ (length before) c e (stands before (utf8_bytes c) after)

  -- Behind a well-formed text its first byte is the first ill-formed one.
  pub first_ill_formed : c ≤ last_code → is_char c ≡ false → (before after : List ℕ) → ill_formed before ≡ None
      → ill_formed (before ++ utf8_bytes c ++ after) ≡ Some (length before)
  unfolding ill_formed
  first_ill_formed last e before after w =
      let bytes = utf8_bytes c in
      let text = before ++ bytes ++ after in
      let more = some_byte c last in
      let p = length before in
      let here : sequence text p ≡ 0 = rw (add-zero p) at (ill_formed_lem e before after 0 more) in
      (rw (← append_assoc before bytes after) at (walk_past before (bytes ++ after) w))
      ∙ walk_ill_formed text p 0 (sym here) (omega (arith, (stands before bytes after).inside)) refl

-- Two code points never have the same bytes, and the bytes of one never begin those of another: texts that begin with
-- the bytes of one each are the same only where these and what follows are.
pub one_value : (c d : ℕ) → c ≤ last_code → d ≤ last_code → (x y : List ℕ)
    → utf8_bytes c ++ x ≡ utf8_bytes d ++ y → (c ≡ d) × (x ≡ y)
one_value = same_code
