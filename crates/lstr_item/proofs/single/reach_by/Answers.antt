-- `lstr_item::single::reach_by` meets its contract. Assumes nothing.
use Rattle.std.proofs.Common.{sym, ◌∙◌, ◌<◌, get_or, true, false, arith, rules}
use Rattle.lstr_item.proofs.Singles.{fits_here, end_spent, end_reached, reach_spent, reach_stop, reach_more, reach_rest}
use Rattle.lstr_item.proofs.single.reach_by.Goals as goal

pub returns-then-budget-steps-clause-reaches : goal.returns-then-budget-steps-clause-reaches
returns-then-budget-steps-clause-reaches g c = λ x p.
    let l = c.loop-tested in
    sym (l.invariant x p ∙ reach_spent _ c.args.state.now.subject.now x l.tested _ l.steps c.if-budget-steps.true)

pub returns-then-not-test-clause-reaches : goal.returns-then-not-test-clause-reaches
returns-then-not-test-clause-reaches g c = λ x p.
    let l = c.loop-tested in
    let b : get_or c.args.state.now.subject.now l.tested 0 < 256 = search rules in
    sym (l.invariant x p ∙ reach_stop _ c.args.state.now.subject.now x l.tested _ l.steps c.if-budget-steps.false
    (sym (fits_here _ c.args.state.now.subject.now x l.tested c.loop-tested-test.true) ∙ sym (p _ false b c.if-not-test.ensures)))

pub loop-tested-preserved : goal.loop-tested-preserved
loop-tested-preserved g c = λ x p.
    let l = c.loop-tested in
    let b : get_or c.args.state.now.subject.now l.tested 0 < 256 = search rules in
    l.invariant x p ∙ reach_more _ c.args.state.now.subject.now x l.tested _ l.steps c.if-budget-steps.false
    (sym (fits_here _ c.args.state.now.subject.now x l.tested c.loop-tested-test.true) ∙ sym (p _ true b c.if-not-test.ensures))

pub returns-then-budget-steps-2-clause-reaches : goal.returns-then-budget-steps-2-clause-reaches
returns-then-budget-steps-2-clause-reaches g c = λ x p.
    let l = c.loop-tested in
    reach_rest _ c.args.state.now.subject.now x l.tested _ l.steps _ _ (l.invariant x p) c.loop-tested-test.false (omega arith) (sym (end_spent _ _ x _ _ _ c.if-budget-steps-2.true))

pub returns-clause-reaches : goal.returns-clause-reaches
returns-clause-reaches g c = λ x p.
    let l = c.loop-tested in
    reach_rest _ c.args.state.now.subject.now x l.tested _ l.steps _ _ (l.invariant x p) c.loop-tested-test.false (omega arith) (sym (end_reached _ _ x _ _ _ c.if-budget-steps-2.false))
