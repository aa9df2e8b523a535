-- `luck_token::string::allows_value` meets its contract. Assumes nothing.
use mathlib.Core.Path.{◌∙◌}
use Rattle.luck_token.proofs.Literals.{extended, characters}
use Rattle.luck_token.proofs.string.allows_value.Goals as goal

pub returns-then-rules : goal.returns-then-rules
returns-then-rules c = let a = c.args in extended a.rules a.value c.if-rules.true

pub returns : goal.returns
returns c = let a = c.args in c.is_char.ensures ∙ characters a.rules a.value c.if-rules.false
