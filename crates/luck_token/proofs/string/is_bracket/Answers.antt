-- `luck_token::string::is_bracket` meets its contract. Assumes nothing.
use borrow.Author.Tests.{eq-eqb, ne_eqb}
use Rattle.luck_text.specs.Bytes.{byte_at}
use Rattle.luck_token.specs.Literal.{equals, bracket_at}
use Rattle.luck_token.proofs.string.is_bracket.Goals as goal

pub returns-then-raw-at : goal.returns-then-raw-at
unfolding bracket_at
returns-then-raw-at c = rw (ne_eqb (byte_at c.args.raw.now c.args.at) c.args.bracket c.if-raw-at.true)

pub returns-then-run-level : goal.returns-then-run-level
unfolding bracket_at equals
returns-then-run-level c = rw (eq-eqb (byte_at c.args.raw.now c.args.at) c.args.bracket c.if-raw-at.false, ← c.run.ensures, ne_eqb c.run.result c.args.level c.if-run-level.true)

pub returns : goal.returns
unfolding bracket_at equals
returns c = rw (eq-eqb (byte_at c.args.raw.now c.args.at) c.args.bracket c.if-raw-at.false, ← c.run.ensures, eq-eqb c.run.result c.args.level c.if-run-level.false)
