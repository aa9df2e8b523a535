-- `luck_pattern::pattern::scan_ranges` meets its contract. The loop's invariant: the first reversed range from `at` on is that of the set.
-- Assumes nothing.
use mathlib.Core.Path.{◌≡◌}
use Prim.Native.Nat.{◌-◌, ◌≤◌}
use Rattle.luck_pattern.specs.Elements.{first_reversed}
use Rattle.luck_pattern.proofs.pattern.scan_ranges.Given as goal

abbrev pub invariant-loop-at : goal.invariant-loop-at
invariant-loop-at l = (l.first ≤ l.at) × (l.at ≤ l.end) × (first_reversed l.text l.end l.at ≡ first_reversed l.text l.end l.first)

abbrev pub decreases-loop-at : goal.decreases-loop-at
decreases-loop-at l = l.end - l.at
