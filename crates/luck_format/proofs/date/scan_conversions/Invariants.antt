-- `luck_format::date::scan_conversions` meets its contract. The invariant: the walk from here is the whole answer. Assumes nothing.
use mathlib.Core.Path.{◌≡◌}
use Prim.Native.Nat.{◌-◌, ◌≤◌}
use lib.ListN.{length}
use Rattle.luck_format.specs.Date.{conversions_walk}
use Rattle.luck_format.proofs.Dates as laws
use Rattle.luck_format.proofs.date.scan_conversions.Given as goal

abbrev pub invariant-loop-at : goal.invariant-loop-at
invariant-loop-at l = (l.at ≤ length l.text) × (laws.on l.has_options l.text l.at ≡ conversions_walk l.has_options l.text)

abbrev pub decreases-loop-at : goal.decreases-loop-at
decreases-loop-at l = length l.text - l.at
