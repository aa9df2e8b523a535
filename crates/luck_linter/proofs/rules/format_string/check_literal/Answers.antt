-- `luck_linter::rules::format_string::check_literal` meets its contract. Assumes nothing.
use Rattle.std.proofs.Common.{ap, ◌∙◌}
use Rattle.luck_linter.specs.StringLiteral.{unspanned, check_named_literal}
use Rattle.luck_linter.proofs.StringLiterals as laws
use Rattle.luck_linter.proofs.rules.format_string.check_literal.Goals as goal

pub returns-in-Some : goal.returns-in-Some
returns-in-Some c = c.check_named.ensures ∙ laws.by_kind _ _ _ _ _ _ c.in-Some.ensures

pub returns-in-None : goal.returns-in-None
unfolding check_named_literal
returns-in-None c = c.unspanned.ensures ∙ ap unspanned c.from.ensures ∙ laws.by_kind _ _ _ _ _ _ c.in-None.ensures
