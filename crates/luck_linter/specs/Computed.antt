-- Every definition of this crate and of those below, for examples: `unfolding computed` lets them compute.
-- Assumes nothing.
use Rattle.luck_linter.specs.StringLiteral
use Rattle.luck_linter.specs.Checks

unfoldable pub computed : Unit {0}
unfolding
    Rattle.luck_pattern.specs.Computed.computed
    Rattle.luck_replacement.specs.Computed.computed
    Rattle.luck_format.specs.Computed.computed
    Rattle.luck_pack.specs.Computed.computed
    Checks.check_of Checks.without_ranges Checks.walk_of
    StringLiteral.is_numeric_escape StringLiteral.has_numeric_escape StringLiteral.literal_check StringLiteral.span_at
    StringLiteral.with_span StringLiteral.check_body StringLiteral.check_short StringLiteral.check_named_literal
    StringLiteral.check_literal
computed = tt
