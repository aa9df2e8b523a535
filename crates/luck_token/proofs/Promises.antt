-- What is promised of decoding. `decode_string`, `with_room`, `decoding_of` and `output_of` are in specs/Decode.antt,
-- `piece_at` and `literal_value` in specs/Literal.antt, `after_text` in specs/Text.antt, `rules_of` in specs/Version.antt,
-- `utf8_bytes`, `is_char` and `ill_formed` in specs/Utf8.antt of luck_utf8.
-- Assumes nothing.
use Rattle.std.specs.Prelude.{None, Some}
use Prim.Native.Nat.{ℕ, ◌+◌, ◌≤◌}
use Prim.Native.Char.{code}
use native.Mathlib.Omega.{arith}
use mathlib.Core.Path.{◌≡◌, refl, sym, ap, ◌∙◌}
use mathlib.Core.Bool.{Bool, true, false, ◌&&◌, ◌||◌}
use mathlib.Core.List.{List, [], ◌∷◌, ◌++◌}
use lib.ListN.{length, drop}
use lib.Dec.{eqb, leb}
use Rattle.luck_text.specs.Bytes.{when◌then◌else◌, byte_at, part, ascii, between, among, is_xdigit, run, numeral}
use Rattle.luck_text.proofs.Bytes.{front_length}
use Rattle.luck_text.proofs.Among.{every_among}
use Rattle.luck_utf8.specs.Utf8.{ill_formed, is_char, utf8_bytes}
use Rattle.luck_utf8.proofs.Promises.{first_ill_formed}
use Rattle.luck_token.specs.Version.{is_version, versions, has, rules_of}
use Rattle.luck_token.specs.Text.{after_text}
use Rattle.luck_token.specs.Literal.{
  piece,
  malformed,
  allows_digits,
  allows_value,
  allows_code_point,
  piece_at,
  literal_value,
}
use Rattle.luck_token.specs.declared.version.Rules.{Rules}
use Rattle.luck_token.specs.Decode.{DecodeOutcome, value, refused, with_room, decode_string, decoding_of, output_of}
use Rattle.luck_token.proofs.Texts.{text_ill_formed}
use Rattle.luck_token.proofs.Values.{literal}
use Rattle.luck_token.proofs.Bounds.{decode_bounded}
use Rattle.luck_token.proofs.CodePoints.{
  with_unicode,
  known_version,
  no_limit,
  unicode_kind,
  letter_piece,
  no_piece,
  unicode_piece,
  escaped,
  escaped_formed,
  escaped_value,
}
use Rattle.luck_token.proofs.OtherEscapes.{characters_only, other_rules, other_piece, other_literal, literal_stays}

outcome_length : (o : DecodeOutcome) (output : List ℕ) → (decoding_of o).written ≤ length output → length (output_of o output) ≡ length output
unfolding decoding_of output_of
outcome_length (value bytes) output h = front_length bytes output h
outcome_length (refused number offset) output h = refl

-- ---- Every decoding, whatever it is given

module _ (version : ℕ) (text : List ℕ) (room : ℕ) where
  -- gives one of these numbers,
  pub numbers : among (decoding_of (decode_string version text room)).number (0 ∷ 23 ∷ 24 ∷ 25 ∷ 26 ∷ []) ≡ true
  numbers = (decode_bounded text room version).numbered

  -- an offset of at most the text's length,
  pub offset_within : (decoding_of (decode_string version text room)).offset ≤ length text
  offset_within = (decode_bounded text room version).offset

  -- which is 0 but for 23,
  pub offset_of_others : ((decoding_of (decode_string version text room)).number ≡ 23 → ⊥) → (decoding_of (decode_string version text room)).offset ≡ 0
  offset_of_others = (decode_bounded text room version).offset_of_others

  -- writes no more bytes than there is room for,
  pub written_in_room : (decoding_of (decode_string version text room)).written ≤ room
  written_in_room = (decode_bounded text room version).in_room

  -- and no more than the literal has,
  pub written_in_text : (decoding_of (decode_string version text room)).written ≤ length text
  written_in_text = (decode_bounded text room version).in_text

  -- so that a room of the literal's length is enough,
  pub room_enough : length text ≤ room → (decoding_of (decode_string version text room)).number ≡ 26 → ⊥
  room_enough h e = omega (arith, (decode_bounded text room version).too_short e)

  -- and refused none: the output is untouched
  pub refused_empty : ((decoding_of (decode_string version text room)).number ≡ 0 → ⊥) → (decoding_of (decode_string version text room)).written ≡ 0
  refused_empty = (decode_bounded text room version).refused_empty

  pub refused_untouched : ((decoding_of (decode_string version text room)).number ≡ 0 → ⊥)
      → (output : List ℕ) → output_of (decode_string version text room) output ≡ output
  refused_untouched = (decode_bounded text room version).refused_untouched

  -- in any case the output keeps its length
  pub length_kept : (output : List ℕ) → length output ≡ room → length (output_of (decode_string version text room) output) ≡ length output
  length_kept output e = outcome_length (decode_string version text room) output (omega (arith, written_in_room))

-- ---- `\u{XXX}`, as F-4 of document 02 has it

-- Which of these escapes a version decodes, by the number of their hexadecimal digits and by the code point c that
-- these spell: 5.4 and 5.5 each one up to 7FFFFFFF, 5.3 and Luau a character only, and Luau in at most 16 digits.
unfoldable pub decodes : ℕ → ℕ → ℕ → Bool
decodes version count c =
    when eqb version 4 || eqb version 5 then leb 1 count && leb c 0x7FFF_FFFF
    else when eqb version 3 then leb 1 count && is_char c
    else when eqb version 6 then between 1 16 count && is_char c
    else false

decodes_allowed : (count c version : ℕ) → among version with_unicode ≡ true
    → allows_code_point (rules_of version) count c ≡ decodes version count c
unfolding decodes allows_code_point allows_digits allows_value when◌then◌else◌ rules_of has is_version versions among
decodes_allowed count c =
    let any = no_limit (leb 1 count) (leb c 0x7FFF_FFFF) in
    every_among (λ (v : ℕ). allows_code_point (rules_of v) count c ≡ decodes v count c) with_unicode
    (no_limit (leb 1 count) (is_char c), (any, (any, (refl, tt))))

module _ (version : ℕ) (known : among version (3 ∷ 4 ∷ 5 ∷ 6 ∷ []) ≡ true) where
  -- at any place of a short literal where a piece begins, such an escape is the bytes of its code point, or malformed
  pub escape_decoded : (body : List ℕ) (p count c : ℕ)
      → byte_at body p ≡ code "\\" → byte_at body (p + 1) ≡ code "u" → byte_at body (p + 2) ≡ code "{"
      → count ≡ run is_xdigit (drop (p + 3) body) → byte_at body (p + 3 + count) ≡ code "}"
      → c ≡ numeral 16 (part body (p + 3) (p + 3 + count))
      → piece_at false (rules_of version) body p
      ≡ (when decodes version count c then piece (utf8_bytes c) (count + 4) else malformed)
  escape_decoded body p count c backslash letter opens digits closes spelled =
      let kind = unicode_kind version known in
      unicode_piece body p backslash letter opens count digits closes (rules_of version) kind c spelled
      ∙ rw (decodes_allowed count c version known)

  -- and so in a literal that has nothing else
  pub literal_decoded : (digits : List ℕ) (c room : ℕ) → run is_xdigit digits ≡ length digits → c ≡ numeral 16 digits
      → decode_string version (ascii "\"\\u{" ++ digits ++ ascii "}\"") room
      ≡ with_room room (when decodes version (length digits) c then Some (utf8_bytes c) else None)
  literal_decoded digits c room all spelled =
      sym (literal version (escaped digits) room (known_version version known) (escaped_formed digits all))
      ∙ ap (with_room room) (escaped_value digits all (rules_of version) (unicode_kind version known) c spelled)
      ∙ rw (decodes_allowed (length digits) c version known)

module _ (body : List ℕ) (p : ℕ)
    (backslash : byte_at body p ≡ code "\\") (letter : byte_at body (p + 1) ≡ code "u") where
  -- 5.1 reads `\u` as the letter,
  pub letter_in_lua51 : piece_at false (rules_of 1) body p ≡ piece (code "u" ∷ []) 2
  letter_in_lua51 = letter_piece body p backslash letter

  -- and 5.2 refuses it
  pub refused_in_lua52 : piece_at false (rules_of 2) body p ≡ malformed
  refused_in_lua52 = no_piece body p backslash letter

-- ---- What F-4 leaves as it is. `characters_only` of proofs/OtherEscapes.antt makes of rules those with characters only
-- in `\u{XXX}`, as all versions had them before.

-- the rules of every version but 5.4 and 5.5,
pub versions_left : (version : ℕ) → (version ≡ 4 → ⊥) → (version ≡ 5 → ⊥)
    → rules_of version ≡ characters_only (rules_of version)
versions_left version f g = sym (other_rules version f g)

module _ (rules : Rules) where
  -- under any rules every piece that is no `\u` of a short literal,
  pub pieces_left : (long : Bool) (body : List ℕ) (p : ℕ)
      → (long ≡ false → byte_at body p ≡ code "\\" → byte_at body (p + 1) ≡ code "u" → ⊥)
      → piece_at long rules body p ≡ piece_at long (characters_only rules) body p
  pieces_left long body p h = sym (other_piece rules body p long h)

  -- so the value of every text without `\u`,
  pub values_left : (raw : List ℕ) → ((p : ℕ) → byte_at raw p ≡ code "\\" → byte_at raw (p + 1) ≡ code "u" → ⊥)
      → literal_value rules raw ≡ literal_value (characters_only rules) raw
  values_left raw h = sym (other_literal rules raw h)

  -- and each value that there was: only refusals became values
  pub values_kept : (raw v : List ℕ) → literal_value (characters_only rules) raw ≡ Some v
      → literal_value rules raw ≡ Some v
  values_kept = literal_stays rules

-- ---- A text with a code point that has no character

-- such a text is refused by 23 at the first byte of the code point, where what stands before is UTF-8: whatever form
-- the refusal has, and whatever the answer to a text that is UTF-8 would be
pub no_character_refused : {A : Type 0} (refusal : ℕ → ℕ → A) (answer : A) (version : ℕ) → is_version version ≡ true
    → (before after : List ℕ) → ill_formed before ≡ None → (c : ℕ) → c ≤ 0x7FFF_FFFF → is_char c ≡ false
    → after_text refusal version (before ++ utf8_bytes c ++ after) answer ≡ refusal 23 (length before)
no_character_refused refusal answer version known before after utf8 c last e =
    sym (text_ill_formed refusal version (before ++ utf8_bytes c ++ after) answer known (length before)
    (sym (first_ill_formed c last e before after utf8)))
