-- `luck_token::string::Body::long_piece` meets its contract. Assumes nothing.
use mathlib.Core.Path.{sym, ◌∙◌}
use native.Mathlib.Omega.{arith}
use Rattle.luck_token.proofs.Breaks.{break_inside}
use Rattle.luck_token.proofs.Literals.{long_byte, long_break}
use Rattle.luck_token.proofs.string.Body.long_piece.Goals as goal

pub returns-then-width-eq0 : goal.returns-then-width-eq0
returns-then-width-eq0 c = record { is = long_byte c.args.self.now.rules.lfcr_line_break c.args.self.now.text.now c.args.at (sym c.line_break-width.ensures ∙ c.if-width-eq0.true); inside = (omega arith, omega arith) }

pub returns : goal.returns
returns c = record { is = long_break c.args.self.now.rules.lfcr_line_break c.args.self.now.text.now c.args.at c.line_break-width.result c.line_break-width.ensures c.if-width-eq0.false; inside = (omega arith, omega (arith, c.line_break-width.ensures, break_inside c.args.self.now.rules.lfcr_line_break c.args.self.now.text.now c.args.at (omega arith))) }
