-- `luck_lines::stream::put_last` meets its contract. Assumes nothing.
use mathlib.Core.Path.{refl}
use Rattle.luck_lines.proofs.Streams as streams
use borrow.Author.Rules.{rules}
use Rattle.luck_lines.proofs.stream.put_last.Goals as goal

pub returns : goal.returns
returns c =
    let a = c.args in
    let put = c.put_row-number in
    let all = c.counted in
    let behind = c.put_totals in record { wrote = refl; output = streams.last_put a.state all.result put.result a.left.now a.output.now put.new.output behind.new.output (search rules) put.ensures.number all.ensures put.ensures.output behind.ensures }
