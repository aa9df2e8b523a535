-- `luck_token::string::bracket_width` meets its contract. Assumes nothing.
use mathlib.Core.Path.{sym, ◌∙◌}
use native.Mathlib.Omega.{arith}
use lib.Dec.{eqb}
use Rattle.luck_token.specs.Literal.{equals}
use Rattle.luck_text.proofs.Bytes.{run_short}
use Rattle.luck_token.proofs.Literals.{no_room, no_opening, no_closing, brackets}
use Rattle.luck_token.proofs.string.bracket_width.Goals as goal

pub overflow_add-width : goal.overflow_add-width
overflow_add-width c = omega (arith, c.run-level.ensures, run_short (eqb 61) c.args.raw.now 1)

pub returns-then-len-width : goal.returns-then-len-width
unfolding equals
returns-then-len-width c = sym (no_room c.args.raw.now c.run-level.result c.run-level.ensures (omega arith))

pub returns-then-is_bracket-2 : goal.returns-then-is_bracket-2
unfolding equals
returns-then-is_bracket-2 c = (brackets c.args.raw.now c.run-level.result c.run-level.ensures (omega arith) (sym c.is_bracket.ensures ∙ c.if-is_bracket.true) (sym c.is_bracket-then-is_bracket.ensures ∙ c.if-is_bracket-2.true), omega arith)

pub returns-else-is_bracket-2 : goal.returns-else-is_bracket-2
unfolding equals
returns-else-is_bracket-2 c = sym (no_closing c.args.raw.now c.run-level.result c.run-level.ensures (sym c.is_bracket-then-is_bracket.ensures ∙ c.if-is_bracket-2.false))

pub returns-else-is_bracket : goal.returns-else-is_bracket
unfolding equals
returns-else-is_bracket c = sym (no_opening c.args.raw.now c.run-level.result c.run-level.ensures (sym c.is_bracket.ensures ∙ c.if-is_bracket.false))
