-- Every definition of this crate and of those below, for examples: `unfolding computed` lets them compute.
-- Assumes nothing.
use Rattle.luck_token.specs.Version
use Rattle.luck_token.specs.Text
use Rattle.luck_token.specs.Whitespace
use Rattle.luck_token.specs.Literal
use Rattle.luck_token.specs.Decode
use Rattle.luck_token.specs.Span

unfoldable pub computed : Unit {0}
unfolding
    Rattle.luck_utf8.specs.Computed.computed
    Version.is_version Version.versions Version.has Version.rules_of
    Text.after_version Text.after_utf8 Text.after_text Text.read_text
    Whitespace.line_break Whitespace.strip_line_break
    Literal.is_short Literal.short_string_body Literal.equals Literal.bracket_at Literal.bracket_width
    Literal.long_string_body Literal.long_piece Literal.other_escape Literal.escape_kind Literal.simple_escape
    Literal.line_break_escape
    Literal.hex_escape Literal.whitespace_escape Literal.decimal_escape Literal.allows_digits Literal.allows_value
    Literal.allows_code_point Literal.unicode_escape Literal.escape_piece Literal.escape_piece_at Literal.short_piece
    Literal.piece_at Literal.piece_turn Literal.whole_value Literal.value_of Literal.literal_value
    Decode.with_room Decode.decode_string Decode.decoding_of Decode.numbered Decode.output_of
    Span.span_of Span.shifted_by
computed = tt
