-- `luck_lines::stream::feed` meets its contract. The invariant: from here the call gives the whole answer. Assumes nothing.
use mathlib.Core.Path.{refl, sym, ◌∙◌}
use native.Mathlib.Omega.{arith}
use lib.ListN.{length, take}
use lib.Seq.{length-take-le}
use Rattle.luck_lines.specs.Stream.{feed_state}
use Rattle.luck_lines.proofs.Streams as streams
use borrow.Author.Rules.{rules}
use Rattle.luck_lines.proofs.stream.feed.Goals as goal

pub loop-used-init : goal.loop-used-init
loop-used-init c = (omega arith, omega arith, refl, refl, streams.starts c.args.input.now (length c.args.output.now) c.args.state)

pub returns-then-end-input : goal.returns-then-end-input
returns-then-end-input c = let a = c.args in
    let l = c.loop-used in
    let told = streams.nothing_ends a.input.now a.output.now l.output l.used l.wrote a.state l.so_far l.invariant.0 l.invariant.1 l.invariant.2 l.invariant.3 l.invariant.4 _ c.unended.ensures
    (streams.no_newline a.input.now (length a.output.now) l.used (feed_state (take l.wrote l.output) l.so_far) c.loop-used-test.true (sym c.line_end-end.ensures ∙ c.if-end-input.true)) in
    record { answer = told.0; output = told.1.0; within = told.1.1 }

pub returns-then-output-wrote-lt-ROW : goal.returns-then-output-wrote-lt-ROW
returns-then-output-wrote-lt-ROW c = let a = c.args in
    let l = c.loop-used in
    let told = streams.is_full a.input.now a.output.now l.output l.used l.wrote a.state l.so_far l.invariant.0 l.invariant.1 l.invariant.2 l.invariant.3 l.invariant.4
    (streams.no_room a.input.now (length a.output.now) l.used (take l.wrote l.output) l.so_far c.loop-used-test.true (λ e. c.if-end-input.false (c.line_end-end.ensures ∙ e)) (omega (arith, c.if-output-wrote-lt-ROW.true, length-take-le l.wrote l.output l.invariant.1, l.invariant.2))) in
    record { answer = told.0; output = told.1.0; within = told.1.1 }

pub slice_bounds-put_row-end : goal.slice_bounds-put_row-end
slice_bounds-put_row-end c = omega (arith, c.line_end-end.ensures, streams.line_inside c.args.input.now c.loop-used.used c.loop-used.invariant.0)

pub overflow_add-used : goal.overflow_add-used
overflow_add-used c = omega (arith, c.line_end-end.ensures, streams.line_inside c.args.input.now c.loop-used.used c.loop-used.invariant.0)

pub loop-used-preserved : goal.loop-used-preserved
loop-used-preserved c = let a = c.args in
    let l = c.loop-used in
    let end = c.line_end-end in
    let put = c.put_row-number in
    let turn_on = streams.line_on a.input.now a.output.now l.output l.used l.wrote a.state l.so_far l.invariant.0 l.invariant.1 l.invariant.2 l.invariant.3 l.invariant.4 end.result end.ensures c.loop-used-test.true c.if-end-input.false (omega (arith, c.if-output-wrote-lt-ROW.false)) put.new.output put.ensures.output put.result c.counted-so_far.result put.ensures.number c.counted-so_far.ensures in
    let turn_kept = streams.line_kept a.input.now a.output.now l.output l.used l.wrote a.state l.so_far l.invariant.0 l.invariant.1 l.invariant.2 l.invariant.3 l.invariant.4 end.result end.ensures c.loop-used-test.true c.if-end-input.false (omega (arith, c.if-output-wrote-lt-ROW.false)) put.new.output put.ensures.output in
    let inside = streams.line_inside a.input.now l.used l.invariant.0 in
    (omega (arith, inside, end.ensures, c.if-end-input.false), search rules, search rules, turn_kept, turn_on)

pub returns : goal.returns
returns c = let a = c.args in
    let l = c.loop-used in
    let told = streams.nothing_ends a.input.now a.output.now l.output l.used l.wrote a.state l.so_far l.invariant.0 l.invariant.1 l.invariant.2 l.invariant.3 l.invariant.4 _ c.unended-2.ensures
    (streams.at_end a.input.now (length a.output.now) l.used (feed_state (take l.wrote l.output) l.so_far) c.loop-used-test.false) in
    record { answer = told.0; output = told.1.0; within = told.1.1 }
