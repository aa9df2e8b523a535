-- `luck_lines::stream::unended` meets its contract. Assumes nothing.
use Rattle.std.proofs.Common.{◌-◌, ◌∙◌}
use Rattle.luck_text.specs.Bytes.{when◌then◌else◌}
use borrow.Author.Tests.{lt-ltb, le-ltb}
use Rattle.luck_lines.proofs.stream.unended.Goals as goal
use Rattle.luck_lines.proofs.stream.unended.Goals.{then-state-via-then-state, then-state-via-else-state+then-length-used-gt-LONGEST}

pub returns-then-state : goal.returns-then-state
unfolding when◌then◌else◌
returns-then-state c =
    let a = c.args in
    c.passed_over.ensures
    ∙ elim c.then-state.branch [
      | then-state-via-then-state w ↦ rw w.if-state.true
      | then-state-via-else-state+then-length-used-gt-LONGEST w ↦
          rw (w.if-state.false, lt-ltb 4005 (a.length - a.used) w.if-length-used-gt-LONGEST.true)
    ]

pub returns : goal.returns
unfolding when◌then◌else◌
returns c = let a = c.args in rw (c.if-state.false, le-ltb 4005 (a.length - a.used) c.if-length-used-gt-LONGEST.false)
