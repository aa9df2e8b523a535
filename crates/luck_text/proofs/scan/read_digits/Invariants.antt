-- `luck_text::scan::read_digits` meets its contract. The number so far stays at the largest. Assumes nothing.
use mathlib.Core.Path.{◌≡◌}
use Prim.Native.Nat.{◌-◌, ◌≤◌, min}
use lib.ListN.{length}
use Rattle.luck_text.specs.Bytes.{part, numeral}
use Rattle.luck_text.specs.Scan.{most}
use Rattle.luck_text.proofs.Bytes.{InRun}
use Rattle.luck_text.proofs.scan.read_digits.Given as goal

abbrev pub invariant-loop-end : goal.invariant-loop-end
invariant-loop-end g l =
    InRun (g.D.Class.holds l.digits) l.text l.at l.end
    × (l.end - l.at ≤ l.limit)
    × (l.value ≡ min (numeral g.D.Base.BASE (part l.text l.at l.end)) most)

abbrev pub decreases-loop-end : goal.decreases-loop-end
decreases-loop-end g l = length l.text - l.end
