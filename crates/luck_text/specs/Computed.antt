-- Every definition of this crate, for examples: `unfolding computed` lets them compute.
-- Assumes nothing.
use Rattle.luck_text.specs.Bytes
use Rattle.luck_text.specs.Walk

unfoldable pub computed : Unit {0}
unfolding
    Bytes.when◌then◌else◌ Bytes.among Bytes.is_digit Bytes.is_xdigit Bytes.is_lua_whitespace Bytes.run Bytes.digit_value
    Bytes.numeral_from Bytes.numeral
    Walk.walk Walk.walk_from
computed = tt
