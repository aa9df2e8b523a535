-- `luck_lines::stream::line_end` meets its contract. Assumes nothing.
use Rattle.std.proofs.Common.{◌-◌, length, take, drop, length-drop, ap, arith}
use Rattle.luck_line.proofs.Heads.{part_whole}
use Rattle.luck_lines.specs.Stream.{line_length}
use Rattle.luck_lines.proofs.Streams as streams
use Rattle.luck_lines.proofs.stream.line_end.Goals as goal

pub returns-in-Some : goal.returns-in-Some
returns-in-Some c =
    let input = c.args.input.now in
    let from = c.blocks_end-from.result in
    let e = c.blocks_end-from.ensures in
    let passed = streams.blocks_passed input c.args.at from e.0 e.1 e.2 in
    let left = take (length input - from) (drop from input) in
    let found = streams.newline_at left c.in-Some.place c.in-Some.ensures in
    omega (arith, passed, found.0, ap line_length (part_whole input from))

pub returns-in-None : goal.returns-in-None
returns-in-None c =
    let input = c.args.input.now in
    let from = c.blocks_end-from.result in
    let e = c.blocks_end-from.ensures in
    let passed = streams.blocks_passed input c.args.at from e.0 e.1 e.2 in
    let left = take (length input - from) (drop from input) in
    let nowhere = streams.newline_nowhere left c.in-None.ensures in
    omega (arith, passed, nowhere, ap line_length (part_whole input from), length-drop from input, ap length (part_whole input from), e.1)
