-- `luck_token::string::short_string_body` meets its contract. Assumes nothing.
use mathlib.Core.Path.{sym, ◌∙◌}
use native.Mathlib.Omega.{arith}
use Rattle.luck_token.specs.Literal.{short_string_body}
use Rattle.luck_text.proofs.Cases.{if_true, if_false}
use Rattle.luck_token.proofs.Literals.{both_quotes}
use Rattle.luck_token.proofs.string.short_string_body.Goals as goal

pub overflow_sub-result : goal.overflow_sub-result
overflow_sub-result c = omega (arith, both_quotes c.args.raw.now (sym c.is_short.ensures ∙ c.if-is_short.true))

pub returns-then-is_short : goal.returns-then-is_short
unfolding short_string_body
returns-then-is_short c = sym (if_true _ _ _ (sym c.is_short.ensures ∙ c.if-is_short.true))

pub returns : goal.returns
unfolding short_string_body
returns c = sym (if_false _ _ _ (sym c.is_short.ensures ∙ c.if-is_short.false))
