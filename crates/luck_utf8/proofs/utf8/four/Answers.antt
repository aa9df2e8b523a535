-- `luck_utf8::utf8::four` meets its contract: `Left` says what is due after each byte.
use mathlib.Core.Path.{ap}
use mathlib.Core.Bool.{not}
use native.Mathlib.Omega.{arith}
use Rattle.luck_utf8.proofs.Sequences.{left_row, left_short, left_out, left_in, left_end}
use Rattle.luck_utf8.proofs.utf8.four.Goals as goal
use Rattle.luck_utf8.proofs.utf8.four.Goals.{then-not-has-via-then-not-has, then-not-has-via-else-not-has+then-not-is_tail}
use Rattle.luck_utf8.proofs.utf8.four.Goals.{then-not-has-via-else-not-has+else-not-is_tail+then-not-is_tail-2}

pub returns-then-text-at-lt4 : goal.returns-then-text-at-lt4
returns-then-text-at-lt4 c = left_short (left_row c.requires.0 c.second_of_four-range.ensures) (omega arith)

pub returns-then-not-has : goal.returns-then-not-has
returns-then-not-has c =
    let second = left_row c.requires.0 c.second_of_four-range.ensures in
    elim c.then-not-has.branch [
      | then-not-has-via-then-not-has w ↦ left_out second c.has.ensures (ap not w.if-not-has.true)
      | then-not-has-via-else-not-has+then-not-is_tail w ↦
          left_out (left_in second c.has.ensures (ap not w.if-not-has.false) (omega arith)) w.is_tail.ensures (ap not w.if-not-is_tail.true)
      | then-not-has-via-else-not-has+else-not-is_tail+then-not-is_tail-2 w ↦
          let third = left_in second c.has.ensures (ap not w.if-not-has.false) (omega arith) in
          let fourth = left_in third w.is_tail.ensures (ap not w.if-not-is_tail.false) (omega arith) in
          left_out fourth w.is_tail-else-not-is_tail.ensures (ap not w.if-not-is_tail-2.true)
    ]

pub returns : goal.returns
returns c =
    let second = left_row c.requires.0 c.second_of_four-range.ensures in
    left_end
    (left_in
    (left_in (left_in second c.has.ensures (ap not c.if-not-has.false) (omega arith)) c.is_tail.ensures (ap not c.if-not-is_tail.false) (omega arith))
    c.is_tail-else-not-is_tail.ensures (ap not c.if-not-is_tail-2.false) (omega arith))
