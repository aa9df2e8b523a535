-- Every definition of this crate and of those below, for examples: `unfolding computed` lets them compute.
-- Assumes nothing.
use Rattle.luck_utf8.specs.Utf8

unfoldable pub computed : Unit {0}
unfolding
    Rattle.luck_text.specs.Computed.computed
    Utf8.rfc3629 Utf8.tails_of Utf8.follow Utf8.width_by Utf8.sequence Utf8.sequence_at Utf8.none_ill_formed Utf8.ill_formed
    Utf8.code_point Utf8.char_at Utf8.is_char Utf8.rfc2279 Utf8.six_bits Utf8.bytes_by Utf8.utf8_bytes
computed = tt
