-- String literals: section 3.1 of the manuals of 5.2 to 5.5 (2.1 of 5.1), Luau's grammar, and string.rs of luck where
-- it differs (points 4, 5 and 12 of document 03); `\u{}` of 5.4 and 5.5 as F-4 of document 02 has it.
-- A literal's text is taken apart into what stands between its quotes or brackets, and that into pieces; its value is
-- the pieces' bytes.
-- Assumes nothing.
use Rattle.std.specs.Prelude.{ℕ, ◌+◌, ◌-◌, min, max, Bool, true, false, not, ◌&&◌, ◌||◌, eqb, leb, ltb}
use Rattle.std.specs.Prelude.{List, [], ◌∷◌, ◌++◌, length, drop, Option, None, Some}
use Prim.Native.Char.{code}
use Rattle.luck_text.specs.Bytes.{
  when◌then◌else◌,
  ascii,
  byte_at,
  part,
  among,
  is_digit,
  is_xdigit,
  is_lua_whitespace,
  run,
  numeral,
}
use Rattle.luck_text.specs.Walk.{Turn, stop, goes, walk_from}
use Rattle.luck_utf8.specs.Utf8.{last_code, is_char, utf8_bytes}
use Rattle.luck_token.specs.Whitespace.{line_break, strip_line_break}
use Rattle.luck_token.specs.declared.version.Rules.{Rules}
use Rattle.luck_token.specs.declared.string.Places.{Places}
use Rattle.luck_token.specs.declared.string.Escape.{Escape}
use Rattle.luck_token.specs.declared.string.Escape.TheVariants.{
  Simple,
  LineBreak,
  Hex,
  Whitespace,
  Decimal,
  Unicode,
  Itself,
}

-- ---- The literal's text

-- quoted: the same quote first and last
unfoldable pub is_short : List ℕ → Bool
is_short raw =
    let first = byte_at raw 0 in
    leb 2 (length raw) && (eqb first (code "\"") || eqb first (code "'")) && eqb (byte_at raw (length raw - 1)) first

-- what stands between the quotes: its start and its end
unfoldable pub short_string_body : List ℕ → Option (ℕ × ℕ)
short_string_body raw = when is_short raw then Some (1, length raw - 1) else None

abbrev pub places_of : Option Places → Option (ℕ × ℕ)
places_of (Some places) = Some (places.start, places.end)
places_of None = None

-- how many `=` stand from place p on
unfoldable pub equals : List ℕ → ℕ → ℕ
equals raw p = run (eqb (code "=")) (drop p raw)

-- a long bracket of this level at place p: the bracket byte, as many `=`, and the bracket byte again
unfoldable pub bracket_at : ℕ → ℕ → List ℕ → ℕ → Bool
bracket_at bracket level raw p =
    eqb (byte_at raw p) bracket && eqb (equals raw (p + 1)) level && eqb (byte_at raw (p + 1 + level)) bracket

-- between two long brackets of one level: how many bytes each of them has, 0 for any other text
unfoldable pub bracket_width : List ℕ → ℕ
bracket_width raw =
    let level = equals raw 1 in
    let width = level + 2 in
    let end = length raw - width in
    when leb (width + width) (length raw) && bracket_at (code "[") level raw 0 && bracket_at (code "]") level raw end
    then width else 0

-- what stands between the brackets, without a line break right after the opening one
unfoldable pub long_string_body : Bool → List ℕ → List ℕ
long_string_body lfcr raw = let width = bracket_width raw in strip_line_break lfcr (part raw width (length raw - width))

-- ---- Pieces

-- the bytes that a piece of the text stands for, and how many bytes of the text it takes
pub data LiteralPiece : Type 0 where
  piece : List ℕ → ℕ → LiteralPiece
  malformed : LiteralPiece

-- in a long string each line break is a newline, and any other byte itself
unfoldable pub long_piece : Bool → List ℕ → ℕ → LiteralPiece
long_piece lfcr body p =
    let width = line_break lfcr body p in
    when eqb width 0 then piece (byte_at body p ∷ []) 1 else piece (code "\n" ∷ []) width

-- an escape that the version does not define: 5.1 and Luau read the byte as itself
unfoldable pub other_escape : Rules → Option Escape
other_escape rules = when rules.strict_escapes then None else Some Itself

-- what the byte after a backslash begins, none where the version does not define it. The code's enum Escape: Simple
-- (`\n`, `\"` and such), LineBreak, Hex `\xXX`, Whitespace `\z`, Decimal `\ddd`, Unicode `\u{XXX}`, Itself (the byte
-- stands for itself).
unfoldable pub escape_kind : Rules → ℕ → Option Escape
escape_kind rules e =
    when among e (ascii "abfnrtv\\\"'") then Some Simple
    else when eqb e (code "\n") || eqb e (code "\r") then Some LineBreak
    else when is_digit e then Some Decimal
    else when eqb e (code "x") && rules.hex_escape then Some Hex
    else when eqb e (code "z") && rules.hex_escape then Some Whitespace
    else when eqb e (code "u") && rules.unicode_escape then Some Unicode
    else other_escape rules

-- the byte of an escape of kind Simple: 07, 08, 0C and 0B are BEL, BS, FF and VT; a backslash or a quote is itself
unfoldable pub simple_escape : ℕ → ℕ
simple_escape e =
    when eqb e (code "a") then 0x07
    else when eqb e (code "b") then 0x08
    else when eqb e (code "f") then 0x0C
    else when eqb e (code "n") then code "\n"
    else when eqb e (code "r") then code "\r"
    else when eqb e (code "t") then code "\t"
    else when eqb e (code "v") then 0x0B else e

-- `\` and a line break is a newline. A lone CR counts here in Luau too.
unfoldable pub line_break_escape : Bool → List ℕ → ℕ → LiteralPiece
line_break_escape lfcr body p = piece (code "\n" ∷ []) (1 + max 1 (line_break lfcr body (p + 1)))

-- exactly two hexadecimal digits
unfoldable pub hex_escape : List ℕ → ℕ → LiteralPiece
hex_escape body p =
    when is_xdigit (byte_at body (p + 2)) && is_xdigit (byte_at body (p + 3))
    then piece (numeral 16 (part body (p + 2) (p + 4)) ∷ []) 4 else malformed

-- `\z` skips the whitespace after it
unfoldable pub whitespace_escape : List ℕ → ℕ → LiteralPiece
whitespace_escape body p = piece [] (2 + run is_lua_whitespace (drop (p + 2) body))

-- one to three decimal digits, at most 255
unfoldable pub decimal_escape : List ℕ → ℕ → LiteralPiece
decimal_escape body p =
    let count = min 3 (run is_digit (drop (p + 1) body)) in
    let value = numeral 10 (part body (p + 1) (p + 1 + count)) in
    when leb value 255 then piece (value ∷ []) (1 + count) else malformed

-- unicode_escape_codepoint of luck: how many digits the version allows
unfoldable pub allows_digits : Rules → ℕ → Bool
allows_digits rules count = leb 1 count && (not rules.unicode_escape_digit_limit || leb count 16)

-- and of which value: 5.4 and 5.5 take each one up to 7FFFFFFF (F-4 of document 02), the others a character only
-- (char::from_u32 of luck)
unfoldable pub allows_value : Rules → ℕ → Bool
allows_value rules value = when rules.extended_unicode_escape then leb value last_code else is_char value

unfoldable pub allows_code_point : Rules → ℕ → ℕ → Bool
allows_code_point rules count value = allows_digits rules count && allows_value rules value

-- hexadecimal digits in braces, as many and of such a value as the version allows
unfoldable pub unicode_escape : Rules → List ℕ → ℕ → LiteralPiece
unicode_escape rules body p =
    let count = run is_xdigit (drop (p + 3) body) in
    let value = numeral 16 (part body (p + 3) (p + 3 + count)) in
    when eqb (byte_at body (p + 2)) (code "{") && eqb (byte_at body (p + 3 + count)) (code "}")
    && allows_code_point rules count value
    then piece (utf8_bytes value) (count + 4)
    else malformed

-- the escape whose backslash stands at place p
unfoldable pub escape_piece : Rules → Option Escape → List ℕ → ℕ → LiteralPiece
escape_piece rules (Some Simple) body p = piece (simple_escape (byte_at body (p + 1)) ∷ []) 2
escape_piece rules (Some LineBreak) body p = line_break_escape rules.lfcr_line_break body p
escape_piece rules (Some Hex) body p = hex_escape body p
escape_piece rules (Some Whitespace) body p = whitespace_escape body p
escape_piece rules (Some Decimal) body p = decimal_escape body p
escape_piece rules (Some Unicode) body p = unicode_escape rules body p
escape_piece rules (Some Itself) body p = piece (byte_at body (p + 1) ∷ []) 2
escape_piece rules None body p = malformed

unfoldable pub escape_piece_at : Rules → List ℕ → ℕ → LiteralPiece
escape_piece_at rules body p =
    let escape = escape_piece rules (escape_kind rules (byte_at body (p + 1))) body p in
    when ltb (p + 1) (length body) then escape else malformed

-- in a short string a backslash begins an escape, and any other byte is itself
unfoldable pub short_piece : Rules → List ℕ → ℕ → LiteralPiece
short_piece rules body p =
    let escape = escape_piece_at rules body p in
    when eqb (byte_at body p) (code "\\") then escape else piece (byte_at body p ∷ []) 1

-- the piece at place p of a long or a short string
unfoldable pub piece_at : Bool → Rules → List ℕ → ℕ → LiteralPiece
piece_at true rules body p = long_piece rules.lfcr_line_break body p
piece_at false rules body p = short_piece rules body p

-- ---- The value

-- the bytes so far and those of one more piece
unfoldable pub piece_turn : List ℕ → LiteralPiece → Turn (List ℕ) (Option (List ℕ))
piece_turn before malformed = stop None
piece_turn before (piece bytes width) = goes width (before ++ bytes)

unfoldable pub whole_value : ℕ → List ℕ → Option (List ℕ)
whole_value p before = Some before

unfoldable pub value_of : Bool → Rules → List ℕ → Option (List ℕ)
value_of long rules body =
    walk_from (λ p before. piece_turn before (piece_at long rules body p)) whole_value (length body) 0 []

-- the value of a literal, none for a text that is no literal or has a malformed piece
unfoldable pub literal_value : Rules → List ℕ → Option (List ℕ)
literal_value rules raw =
    let long = value_of true rules (long_string_body rules.lfcr_line_break raw) in
    let short = value_of false rules (part raw 1 (length raw - 1)) in
    when ltb 0 (bracket_width raw) then long else when is_short raw then short else None
