-- The bounds of decoding, whatever it is given: its number, its offset, and how much it writes. A piece of a literal stands for no more bytes than it
-- takes, so a value is no longer than its literal.
-- Assumes nothing.
use Rattle.std.specs.Prelude.{Option, None, Some}
use Prim.Native.Nat.{ℕ, ◌+◌, ◌-◌, ◌≤◌, ◌<◌}
use native.Mathlib.Omega.{arith}
use mathlib.Core.Path.{◌≡◌, refl}
use mathlib.Core.Bool.{Bool, true, false, ◌&&◌}
use mathlib.Core.List.{List, [], ◌∷◌}
use lib.ListN.{length, drop, length-append, length-take, length-drop}
use lib.Dec.{eqb, leb, ltb}
use borrow.Author.Tests.{eqb-true, eqb-false, leb-true, leb-false}
use Rattle.luck_text.specs.Bytes.{byte_at, part, among, is_xdigit, run, numeral}
use Rattle.luck_text.proofs.Cases.{by_test, and_left, and_right, present}
use Rattle.luck_text.proofs.Keeps.{Turns, walk_keeps}
use Rattle.luck_token.specs.Version.{rules_of}
use Rattle.luck_token.specs.Whitespace.{line_break, strip_line_break}
use Rattle.luck_token.specs.Literal.{
  is_short,
  bracket_width,
  long_string_body,
  LiteralPiece,
  piece,
  malformed,
  long_piece,
  escape_kind,
  simple_escape,
  line_break_escape,
  hex_escape,
  whitespace_escape,
  decimal_escape,
  allows_code_point,
  unicode_escape,
  escape_piece,
  escape_piece_at,
  short_piece,
  piece_at,
  piece_turn,
  whole_value,
  value_of,
  literal_value,
}
use Rattle.luck_token.specs.Decode.{DecodeOutcome, value, refused, with_room, decode_string, decoding_of, output_of}
use Rattle.luck_token.specs.declared.version.Rules.{Rules}
use Rattle.luck_token.specs.declared.string.Escape.{Escape}
use Rattle.luck_token.specs.declared.string.Escape.TheVariants.{Simple, LineBreak, Hex, Whitespace, Decimal, Unicode, Itself}
use Rattle.luck_token.proofs.Literals.{exact, allowed_small, allowed_some, in_width}
use Rattle.luck_token.proofs.Texts.{in_any_case}

-- ---- Pieces

-- a piece at place p stands for no more bytes than it takes, and than are left
abbrev Small : List ℕ → ℕ → LiteralPiece → Type 0
Small body p (piece bytes width) = (length bytes ≤ width) × (p + length bytes ≤ length body)
Small body p malformed = Unit {0}

module _ (body : List ℕ) (p : ℕ) (h : p < length body) where
  one_byte : (b width : ℕ) → 1 ≤ width → Small body p (piece (b ∷ []) width)
  one_byte b width w = (omega arith, omega arith)

  long_small : (lfcr : Bool) → Small body p (long_piece lfcr body p)
  unfolding long_piece
  long_small lfcr =
      let width = line_break lfcr body p in
      by_test (Small body p) (eqb width 0) _ _ (λ _. one_byte (byte_at body p) 1 (omega arith))
      (λ e. one_byte 10 width (omega (arith, eqb-false width 0 e)))

  hex_small : Small body p (hex_escape body p)
  unfolding hex_escape
  hex_small = by_test (Small body p) _ _ _ (λ _. (omega arith, omega arith)) (λ _. tt)

  decimal_small : Small body p (decimal_escape body p)
  unfolding decimal_escape
  decimal_small = by_test (Small body p) _ _ _ (λ _. (omega arith, omega arith)) (λ _. tt)

  unicode_small : (rules : Rules) → Small body p (unicode_escape rules body p)
  unfolding unicode_escape exact
  unicode_small rules =
      let count = run is_xdigit (drop (p + 3) body) in
      let value = numeral 16 (part body (p + 3) (p + 3 + count)) in
      let opens = eqb (byte_at body (p + 2)) 123 in
      let closes = eqb (byte_at body (p + 3 + count)) 125 in
      by_test (Small body p) (opens && closes && allows_code_point rules count value) _ _
      (λ e.
      let brace = eqb-true (byte_at body (p + 3 + count)) 125 (and_right opens closes (and_left (opens && closes) (allows_code_point rules count value) e)) in
      let there = present body (p + 3 + count) (omega arith) in
      let allowed = and_right (opens && closes) (allows_code_point rules count value) e in
      let small = allowed_small rules value count allowed in
      let few = in_width rules body p count refl value (omega arith) (allowed_some rules value count allowed) small in
      (few, omega arith))
      (λ _. tt)

  escape_small : (rules : Rules) (escape : Option Escape) → Small body p (escape_piece rules escape body p)
  unfolding escape_piece line_break_escape whitespace_escape
  escape_small rules (Some Simple) = one_byte (simple_escape (byte_at body (p + 1))) 2 (omega arith)
  escape_small rules (Some LineBreak) = one_byte 10 _ (omega arith)
  escape_small rules (Some Hex) = hex_small
  escape_small rules (Some Whitespace) = (omega arith, omega arith)
  escape_small rules (Some Decimal) = decimal_small
  escape_small rules (Some Unicode) = unicode_small rules
  escape_small rules (Some Itself) = one_byte (byte_at body (p + 1)) 2 (omega arith)
  escape_small rules None = tt

  short_small : (rules : Rules) → Small body p (short_piece rules body p)
  unfolding short_piece escape_piece_at
  short_small rules =
      by_test (Small body p) _ _ _
      (λ _. by_test (Small body p) _ _ _ (λ _. escape_small rules (escape_kind rules (byte_at body (p + 1)))) (λ _. tt))
      (λ _. one_byte (byte_at body p) 1 (omega arith))

  piece_small : (long : Bool) (rules : Rules) → Small body p (piece_at long rules body p)
  unfolding piece_at
  piece_small true rules = long_small rules.lfcr_line_break
  piece_small false rules = short_small rules

-- ---- Values

-- a value has at most this many bytes
abbrev Most : ℕ → Option (List ℕ) → Type 0
Most n None = Unit {0}
Most n (Some bytes) = length bytes ≤ n

module _ (long : Bool) (rules : Rules) (body : List ℕ) (most : ℕ) (in_most : length body ≤ most) where
  -- the bytes so far are no more than the bytes read
  abbrev Read : ℕ → List ℕ → Type 0
  Read left before = length before + left ≤ length body

  taken_reads : (p : ℕ) (before : List ℕ) → p < length body → Read (length body - p) before → (q : LiteralPiece) → Small body p q
      → Turns Read (Most most) (length body - p) (piece_turn before q)
  unfolding piece_turn
  taken_reads p before h r malformed s = tt
  taken_reads p before h r (piece bytes width) s = omega (arith, length-append before bytes)

  value_small : Most most (value_of long rules body)
  unfolding value_of whole_value
  value_small =
      walk_keeps (λ p before. piece_turn before (piece_at long rules body p)) whole_value (length body) Read (Most most)
      (λ p before h r. taken_reads p before h r (piece_at long rules body p) (piece_small body p h long rules))
      (λ p before r. omega arith) [] (omega arith)

part_shorter : (text : List ℕ) (from to : ℕ) → length (part text from to) ≤ length text
part_shorter text from to = omega (arith, length-take (to - from) (drop from text), length-drop from text)

-- a literal's value is no longer than its text
literal_small : (rules : Rules) (raw : List ℕ) → Most (length raw) (literal_value rules raw)
unfolding literal_value long_string_body strip_line_break
literal_small rules raw =
    let width = bracket_width raw in
    let inner = part raw width (length raw - width) in
    let skipped = line_break rules.lfcr_line_break inner 0 in
    by_test (Most (length raw)) (ltb 0 width) _ _
    (λ _. value_small true rules (drop skipped inner) (length raw) (omega (arith, length-drop skipped inner, part_shorter raw width (length raw - width))))
    (λ _. by_test (Most (length raw)) (is_short raw) _ _
    (λ _. value_small false rules (part raw 1 (length raw - 1)) (length raw) (part_shorter raw 1 (length raw - 1))) (λ _. tt))

-- ---- Outcomes

-- of an outcome, with a text of this length and this room
pub record Bounded (len room : ℕ) (o : DecodeOutcome) : Type 0 where
  pub numbered : among (decoding_of o).number (0 ∷ 23 ∷ 24 ∷ 25 ∷ 26 ∷ []) ≡ true
  pub offset : (decoding_of o).offset ≤ len
  pub offset_of_others : ((decoding_of o).number ≡ 23 → ⊥) → (decoding_of o).offset ≡ 0
  pub in_room : (decoding_of o).written ≤ room
  pub in_text : (decoding_of o).written ≤ len
  pub refused_empty : ((decoding_of o).number ≡ 0 → ⊥) → (decoding_of o).written ≡ 0
  pub refused_untouched : ((decoding_of o).number ≡ 0 → ⊥) → (output : List ℕ) → output_of o output ≡ output
  pub too_short : (decoding_of o).number ≡ 26 → room < len

module _ (text : List ℕ) (room : ℕ) where
  value_bounded : (bytes : List ℕ) → length bytes ≤ room → length bytes ≤ length text → Bounded (length text) room (value bytes)
  unfolding decoding_of among
  value_bounded bytes h s =
      record {
        numbered = refl;
        offset = omega arith;
        offset_of_others = λ _. refl;
        in_room = h;
        in_text = s;
        refused_empty = λ n. absurd (n refl);
        refused_untouched = λ n. absurd (n refl);
        too_short = λ e. absurd (omega arith);
      }

  refusal_bounded : (number offset : ℕ) → among number (0 ∷ 23 ∷ 24 ∷ 25 ∷ 26 ∷ []) ≡ true → offset ≤ length text → ((number ≡ 23 → ⊥) → offset ≡ 0)
      → (number ≡ 26 → room < length text) → Bounded (length text) room (refused number offset)
  unfolding decoding_of output_of
  refusal_bounded number offset e h z s =
      record {
        numbered = e;
        offset = h;
        offset_of_others = z;
        in_room = omega arith;
        in_text = omega arith;
        refused_empty = λ _. refl;
        refused_untouched = λ _ output. refl;
        too_short = s;
      }

  room_bounded : (o : Option (List ℕ)) → Most (length text) o → Bounded (length text) room (with_room room o)
  unfolding with_room among
  room_bounded None s = refusal_bounded 24 0 refl (omega arith) (λ _. refl) (λ e. absurd (omega arith))
  room_bounded (Some bytes) s =
      by_test (Bounded (length text) room) (leb (length bytes) room) _ _
      (λ e. value_bounded bytes (leb-true (length bytes) room e) s) (λ e. refusal_bounded 26 0 refl (omega arith) (λ _. refl) (λ _. omega (arith, leb-false (length bytes) room e)))

  pub decode_bounded : (version : ℕ) → Bounded (length text) room (decode_string version text room)
  unfolding decode_string among
  decode_bounded version =
      in_any_case (Bounded (length text) room) refused text _ (refusal_bounded 25 0 refl (omega arith) (λ _. refl) (λ e. absurd (omega arith)))
      (λ place h. refusal_bounded 23 place refl (omega arith) (λ n. absurd (n refl)) (λ e. absurd (omega arith)))
      (room_bounded (literal_value (rules_of version) text) (literal_small (rules_of version) text)) version
