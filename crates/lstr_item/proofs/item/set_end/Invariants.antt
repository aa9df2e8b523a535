-- `lstr_item::item::set_end` meets its contract. The loop's invariant: the members from `at` on end where the set ends.
-- Assumes nothing.
use mathlib.Core.Path.{◌≡◌}
use Prim.Native.Nat.{◌-◌, ◌≤◌, ◌<◌}
use lib.Dec.{eqb}
use lib.ListN.{length}
use Rattle.luck_pattern.specs.Reading.{set_end}
use Rattle.luck_pattern.proofs.Patterns.{members}
use Rattle.lstr_item.proofs.item.set_end.Given as goal

abbrev pub invariant-loop-at : goal.invariant-loop-at
invariant-loop-at l =
    (l.first ≤ l.at) × (l.at ≤ length l.pattern) × (l.opening < l.first) × (members l.pattern l.at (eqb l.at l.first) ≡ set_end l.pattern l.opening)

abbrev pub decreases-loop-at : goal.decreases-loop-at
decreases-loop-at l = length l.pattern - l.at
