-- `luck_pack::pack::scan_pack_format` meets its contract. The invariant: the walk from here, in the state so far, gives the whole answer. Assumes nothing.
use mathlib.Core.Path.{◌≡◌}
use Prim.Native.Nat.{◌-◌, ◌≤◌}
use lib.ListN.{length}
use Rattle.luck_pack.specs.Pack.{pack_state, pack_walk}
use Rattle.luck_pack.proofs.Packs.{on}
use Rattle.luck_pack.proofs.pack.scan_pack_format.Given as goal

abbrev pub invariant-loop-at : goal.invariant-loop-at
invariant-loop-at l = (l.at ≤ length l.text) × (l.values ≤ l.at) × (on l.is_packsize l.text l.at (pack_state l.values l.alignment) ≡ pack_walk l.is_packsize l.text)

abbrev pub decreases-loop-at : goal.decreases-loop-at
decreases-loop-at l = length l.text - l.at
