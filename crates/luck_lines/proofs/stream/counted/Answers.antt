-- `luck_lines::stream::counted` meets its contract. Assumes nothing.
use borrow.Author.Tests.{eq-eqb, ne_eqb}
use Rattle.luck_text.specs.Bytes.{when◌then◌else◌}
use Rattle.luck_lines.specs.Stream.{counted}
use Rattle.luck_lines.proofs.stream.counted.Goals as goal

pub returns-then-number-eq0 : goal.returns-then-number-eq0
unfolding counted when◌then◌else◌
returns-then-number-eq0 c = rw (c.one_more.ensures, eq-eqb c.args.number 0 c.if-number-eq0.true)

pub returns : goal.returns
unfolding counted when◌then◌else◌
returns c = rw (c.one_more.ensures, c.one_more-2.ensures, ne_eqb c.args.number 0 c.if-number-eq0.false)
