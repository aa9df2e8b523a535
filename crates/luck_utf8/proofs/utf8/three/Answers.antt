-- `luck_utf8::utf8::three` meets its contract: `Left` says what is due after each byte.
use mathlib.Core.Path.{ap}
use mathlib.Core.Bool.{not}
use native.Mathlib.Omega.{arith}
use Rattle.luck_utf8.proofs.Sequences.{left_row, left_short, left_out, left_in, left_end}
use Rattle.luck_utf8.proofs.utf8.three.Goals as goal
use Rattle.luck_utf8.proofs.utf8.three.Goals.{then-not-has-via-then-not-has, then-not-has-via-else-not-has+then-not-is_tail}

pub returns-then-text-at-lt3 : goal.returns-then-text-at-lt3
returns-then-text-at-lt3 c = left_short (left_row c.requires.0 c.second_of_three-range.ensures) (omega arith)

pub returns-then-not-has : goal.returns-then-not-has
returns-then-not-has c =
    let second = left_row c.requires.0 c.second_of_three-range.ensures in
    elim c.then-not-has.branch [
      | then-not-has-via-then-not-has w ↦ left_out second c.has.ensures (ap not w.if-not-has.true)
      | then-not-has-via-else-not-has+then-not-is_tail w ↦
          left_out (left_in second c.has.ensures (ap not w.if-not-has.false) (omega arith)) w.is_tail.ensures (ap not w.if-not-is_tail.true)
    ]

pub returns : goal.returns
returns c =
    let second = left_row c.requires.0 c.second_of_three-range.ensures in
    left_end
    (left_in (left_in second c.has.ensures (ap not c.if-not-has.false) (omega arith)) c.is_tail.ensures (ap not c.if-not-is_tail.false) (omega arith))
