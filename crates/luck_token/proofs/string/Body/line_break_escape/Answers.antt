-- `luck_token::string::Body::line_break_escape` meets its contract. Assumes nothing.
use Prim.Native.Nat.{◌+◌}
use native.Mathlib.Omega.{arith}
use Rattle.luck_token.specs.Literal.{line_break_escape}
use Rattle.luck_token.proofs.Breaks.{break_inside}
use Rattle.luck_token.proofs.Literals.{newline}
use Rattle.luck_token.proofs.string.Body.line_break_escape.Goals as goal

pub overflow_add-result : goal.overflow_add-result
overflow_add-result c = omega (arith, c.line_break-width.ensures, break_inside c.args.self.now.rules.lfcr_line_break c.args.self.now.text.now (c.args.at + 1) (omega arith))

pub returns : goal.returns
unfolding line_break_escape
returns c = record { is = newline (omega (arith, c.line_break-width.ensures)); inside = (omega arith, omega (arith, c.line_break-width.ensures, break_inside c.args.self.now.rules.lfcr_line_break c.args.self.now.text.now (c.args.at + 1) (omega arith))) }
