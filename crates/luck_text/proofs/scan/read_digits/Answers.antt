-- `luck_text::scan::read_digits` meets its contract. The number so far stays at the largest. Assumes nothing.
use mathlib.Core.Path.{sym, ◌∙◌}
use native.Mathlib.Omega.{arith}
use Rattle.luck_text.proofs.Bytes.{run_goes_on, run_stopped, run_ended, spelled_none, spelled_next}
use Rattle.luck_text.proofs.scan.read_digits.Goals as goal
use Rattle.luck_text.proofs.scan.read_digits.Goals.{
  then-loop-end-test+then-end-at+else-has,
  then-loop-end-test+else-end-at,
  else-loop-end-test,
}

pub loop-end-init : goal.loop-end-init
loop-end-init g c =
    let a = c.args in (
      record { behind = omega arith; so_far = omega arith },
      omega arith,
      spelled_none g.D.Base.BASE a.text.now a.at,
    )

pub loop-end-preserved : goal.loop-end-preserved
loop-end-preserved g c =
    let a = c.args in
    let l = c.loop-end in
    let i = l.invariant in (
      run_goes_on i.0 c.loop-end-test.true (sym c.has.ensures ∙ c.if-has.true),
      omega (arith, c.if-end-at.true),
      spelled_next g.D.Base.BASE a.text.now a.at l.end l.value _ _ i.0.behind c.loop-end-test.true i.2 c.value.ensures.0 (rw (← c.BASE.ensures) c.with_digit-value.ensures),
    )

pub returns-clause-count : goal.returns-clause-count
returns-clause-count g c =
    let i = c.loop-end.invariant in
    elim c.loop-end-test.branch [
      | then-loop-end-test+then-end-at+else-has w ↦
          omega (arith, i.1, run_stopped i.0 w.loop-end-test.true (sym w.has.ensures ∙ w.if-has.false))
      | then-loop-end-test+else-end-at w ↦ omega (arith, i.1, i.0.behind, i.0.so_far, w.if-end-at.false)
      | else-loop-end-test w ↦ omega (arith, i.1, run_ended i.0 w.loop-end-test.false)
    ]
