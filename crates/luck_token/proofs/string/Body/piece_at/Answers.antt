-- `luck_token::string::Body::piece_at` meets its contract. Assumes nothing.
use mathlib.Core.Path.{◌∙◌}
use native.Mathlib.Omega.{arith}
use Rattle.luck_token.proofs.Literals.{short_escape, short_byte, piece_long, piece_short, as_piece}
use Rattle.luck_token.proofs.string.Body.piece_at.Goals as goal

pub returns-then-self : goal.returns-then-self
returns-then-self c = as_piece _ _ (piece_long c.args.self.now.rules c.args.self.now.text.now c.args.at c.args.self.now.long c.if-self.true) c.long_piece.ensures

pub returns-then-value-eq92 : goal.returns-then-value-eq92
returns-then-value-eq92 c = as_piece _ _ (short_escape c.args.self.now.rules c.args.self.now.text.now c.args.at c.if-value-eq92.true ∙ piece_short c.args.self.now.rules c.args.self.now.text.now c.args.at c.args.self.now.long c.if-self.false) c.escape_at.ensures

pub returns : goal.returns
returns c = record { is = short_byte c.args.self.now.rules c.args.self.now.text.now c.args.at c.if-value-eq92.false ∙ piece_short c.args.self.now.rules c.args.self.now.text.now c.args.at c.args.self.now.long c.if-self.false; inside = (omega arith, omega arith) }
