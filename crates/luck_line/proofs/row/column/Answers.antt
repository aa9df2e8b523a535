-- `luck_line::row::column` meets its contract. Assumes nothing.
use borrow.Author.Tests.{lt-ltb, le-ltb}
use Rattle.luck_text.specs.Bytes.{when◌then◌else◌}
use Rattle.luck_line.specs.Row.{column}
use Rattle.luck_line.proofs.row.column.Goals as goal

pub returns-then-n-power : goal.returns-then-n-power
unfolding column when◌then◌else◌
returns-then-n-power c = rw (lt-ltb c.args.n c.args.power c.if-n-power.true)

pub returns : goal.returns
unfolding column when◌then◌else◌
returns c = rw (le-ltb c.args.n c.args.power c.if-n-power.false)
