-- `luck_lines::stream::answer_after` meets its contract. Assumes nothing.
use Rattle.std.proofs.Common.{◌∙◌}
use Rattle.luck_lines.proofs.Streams as streams
use Rattle.luck_lines.proofs.stream.answer_after.Goals as goal

pub returns-then-long : goal.returns-then-long
returns-then-long c = c.from.ensures ∙ streams.of_long _ _ c.if-long.true

pub returns : goal.returns
returns c = c.check_line.ensures ∙ streams.of_short _ _ c.if-long.false
