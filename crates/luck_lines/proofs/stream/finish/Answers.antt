-- `luck_lines::stream::finish` meets its contract. Assumes nothing.
use mathlib.Core.Path.{refl, sym, ap}
use lib.ListN.{length}
use native.Mathlib.Omega.{arith}
use Rattle.luck_text.specs.Bytes.{in_front}
use Rattle.luck_line.proofs.Rows.{totals_length}
use Rattle.luck_lines.proofs.Streams as streams
use Rattle.luck_lines.proofs.stream.finish.Goals as goal

pub returns-then-output : goal.returns-then-output
returns-then-output c =
    let a = c.args in
    let e = streams.finish_full a.state a.left.now (length a.output.now) c.if-output.true in
    record { wrote = sym (ap length e); output = sym (ap (λ f. in_front f a.output.now) e); within = omega arith }

pub returns-then-state : goal.returns-then-state
returns-then-state c =
    let a = c.args in
    let h = c.if-output.false in
    let e = streams.finish_long a.state a.left.now (length a.output.now) h c.if-state.true in
    let last = streams.last_finished a.state a.left.now (length a.output.now) h a.output.now _ _ refl e c.put_last.ensures.wrote c.put_last.ensures.output in
    record { wrote = last.0; output = last.1.0; within = last.1.1 }

pub returns-then-left-eq0 : goal.returns-then-left-eq0
returns-then-left-eq0 c =
    let a = c.args in
    let h = c.if-output.false in
    let e = streams.finish_empty a.state a.left.now (length a.output.now) h c.if-state.false c.if-left-eq0.true in
    let f = streams.bytes_front 15 _ _ a.output.now _ e (totals_length a.state.read a.state.refused) c.put_totals.ensures in
    record { wrote = f.0; output = f.1; within = omega arith }

pub returns : goal.returns
returns c =
    let a = c.args in
    let h = c.if-output.false in
    let e = streams.finish_row a.state a.left.now (length a.output.now) h c.if-state.false c.if-left-eq0.false in
    let last = streams.last_finished a.state a.left.now (length a.output.now) h a.output.now _ _ refl e c.put_last-2.ensures.wrote c.put_last-2.ensures.output in
    record { wrote = last.0; output = last.1.0; within = last.1.1 }
