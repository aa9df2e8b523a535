-- `luck_pattern::pattern::scan_set` meets its contract. The loop's invariant: the members from `at` on end where the set ends, and without a hyphen so
-- far they are elements. Assumes nothing.
use mathlib.Core.Path.{◌≡◌}
use mathlib.Core.Bool.{false}
use Prim.Native.Nat.{◌-◌, ◌≤◌, ◌<◌}
use lib.Dec.{eqb}
use lib.ListN.{length}
use Rattle.luck_pattern.specs.Reading.{set_end}
use Rattle.luck_pattern.specs.Pattern.{is_empty_set}
use Rattle.luck_pattern.proofs.Elements.{ElementsTo}
use Rattle.luck_pattern.proofs.Patterns.{members}
use Rattle.luck_pattern.proofs.pattern.scan_set.Given as goal

abbrev pub invariant-members : goal.invariant-members
invariant-members l =
    (l.first ≤ l.at) × (l.at ≤ length l.text) × (l.start < l.first) × (is_empty_set l.text l.start ≡ false)
    × (members l.text l.at (eqb l.at l.first) ≡ set_end l.text l.start) × (l.hyphen ≡ false → ElementsTo l.text l.first l.at)

abbrev pub decreases-members : goal.decreases-members
decreases-members l = length l.text - l.at
