-- `luck_replacement::replacement::scan_pieces` meets its contract. The invariant: the walk over the pieces from here is the whole answer. A turn that passes over blocks
-- may leave `at` where it was, but ends the run; any other turn moves `at` on. Assumes nothing.
use Rattle.luck_replacement.specs.Limit.{as_count}
use mathlib.Core.Path.{◌≡◌}
use Prim.Native.Nat.{◌+◌, ◌-◌, ◌*◌, ◌≤◌}
use lib.ListN.{length}
use Rattle.luck_replacement.specs.Replacement.{pieces, pieces_walk}
use Rattle.luck_replacement.proofs.Replacements as laws
use Rattle.luck_replacement.proofs.replacement.scan_pieces.Given as goal

abbrev pub invariant-loop-at : goal.invariant-loop-at
invariant-loop-at l =
    (l.run ≤ l.at) × (l.at - l.run ≤ 32) × (l.at ≤ length l.text)
    × (laws.on l.is_strict (as_count l.limit) l.text l.at ≡ pieces_walk l.is_strict (as_count l.limit) (pieces l.text) 0)

abbrev pub decreases-loop-at : goal.decreases-loop-at
decreases-loop-at l = 33 * (length l.text - l.at) + (l.at - l.run)
