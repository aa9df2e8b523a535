-- `luck_format::format::scan_format_string` meets its contract. The invariant: from here the walk gives the whole answer. Assumes nothing.
use mathlib.Core.Path.{◌≡◌}
use Prim.Native.Nat.{◌-◌, ◌≤◌}
use lib.ListN.{length}
use Rattle.luck_format.specs.Format.{format_walk}
use Rattle.luck_format.proofs.Formats as formats
use Rattle.luck_format.proofs.format.scan_format_string.Given as goal

abbrev pub invariant-loop-at : goal.invariant-loop-at
invariant-loop-at l = (l.count ≤ l.at) × (l.at ≤ length l.text) × (formats.on l.rules l.text l.at l.count ≡ format_walk l.rules l.text)

abbrev pub decreases-loop-at : goal.decreases-loop-at
decreases-loop-at l = length l.text - l.at
