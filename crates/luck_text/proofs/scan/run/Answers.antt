-- `luck_text::scan::run` meets its contract. Assumes nothing.
use mathlib.Core.Path.{sym, ◌∙◌}
use Rattle.luck_text.proofs.Bytes.{run_stopped, run_goes_on, run_ended}
use Rattle.luck_text.proofs.scan.run.Goals as goal
use Rattle.luck_text.proofs.scan.run.Goals.{then-loop-end-test+else-has, else-loop-end-test}

pub loop-end-preserved : goal.loop-end-preserved
loop-end-preserved g c = run_goes_on c.loop-end.invariant c.loop-end-test.true (sym c.has.ensures ∙ c.if-has.true)

pub returns : goal.returns
returns g c =
    elim c.loop-end-test.branch [
      | then-loop-end-test+else-has w ↦ run_stopped c.loop-end.invariant w.loop-end-test.true (sym w.has.ensures ∙ w.if-has.false)
      | else-loop-end-test w ↦ run_ended c.loop-end.invariant w.loop-end-test.false
    ]
