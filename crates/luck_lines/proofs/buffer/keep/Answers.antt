-- `luck_lines::buffer::keep` meets its contract. Assumes nothing.
use Rattle.std.proofs.Common.{◌+◌, ◌-◌, ◌≤◌, length, refl, ap, ◌∙◌, take, drop, arith}
use Rattle.luck_lines.proofs.Buffers as buffers
use Rattle.luck_lines.proofs.buffer.keep.Goals as goal

pub returns-then-stop-at : goal.returns-then-stop-at
returns-then-stop-at c =
    let a = c.args in
    let none = buffers.part_moved a.buffer.now a.at 0 a.end (omega (arith, c.min-stop.ensures, c.if-stop-at.true)) in
    let kept = buffers.kept a.buffer.now a.buffer.now a.at 0 refl refl refl a.end (omega arith) none in
    record { count = kept.0; buffer = kept.1.0; within = kept.1.1 }

pub returns : goal.returns
returns c =
    let a = c.args in
    let first = a.buffer.now in
    let n = c.min-stop.result - a.at in
    let copied = c.copy_within.ensures in
    let inside : a.at + n ≤ length first = omega (arith, c.min-stop.ensures, c.if-stop-at.false) in
    let front = ap (take n) copied.after ∙ buffers.copied_front first a.at n inside in
    let rest = ap (drop n) copied.after ∙ buffers.copied_rest first a.at n inside in
    let all = buffers.part_moved first a.at n a.end (omega (arith, c.min-stop.ensures)) in
    let kept = buffers.kept first c.copy_within.new.self a.at n copied.len front rest a.end (omega (arith, c.min-stop.ensures)) all in
    record { count = kept.0; buffer = kept.1.0; within = kept.1.1 }
