-- `luck_pattern::pattern::scan_pattern` meets its contract. The loop's invariant: the walk from `at` on, after these captures, is the whole answer.
-- Assumes nothing.
use mathlib.Core.Path.{◌≡◌}
use Prim.Native.Nat.{◌-◌, ◌≤◌}
use lib.ListN.{length}
use Rattle.luck_pattern.specs.Pattern.{pattern_walk}
use Rattle.luck_pattern.specs.Inner.{flags}
use Rattle.luck_pattern.proofs.Patterns.{items}
use Rattle.luck_pattern.proofs.pattern.scan_pattern.Given as goal

abbrev pub invariant-loop-at : goal.invariant-loop-at
invariant-loop-at l = (l.at ≤ length l.text) × (items l.ranges l.text l.at (flags l.captures) ≡ pattern_walk l.ranges l.text)

abbrev pub decreases-loop-at : goal.decreases-loop-at
decreases-loop-at l = length l.text - l.at
