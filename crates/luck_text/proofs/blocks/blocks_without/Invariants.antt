-- `luck_text::blocks::blocks_without` meets its contract. The loop's invariant: no byte passed is of the class. Assumes nothing.
use mathlib.Core.Path.{◌≡◌}
use mathlib.Core.Bool.{false}
use Prim.Native.Nat.{ℕ, ◌≤◌, ◌<◌}
use lib.ListN.{length, drop}
use Rattle.std.specs.Slice.Iter.{chunks_exact_size, chunks_exact_rest}
use Rattle.luck_text.specs.Bytes.{byte_at}
use Rattle.luck_text.proofs.blocks.blocks_without.Given as goal

abbrev pub invariant-loop-block : goal.invariant-loop-block
invariant-loop-block g l =
    (goal.iterator-loop-block g).can_next l.block-iterator × (goal.iterator-loop-block g).is_finite l.block-iterator
    × (chunks_exact_size l.block-iterator ≡ g.row.SIZE) × (chunks_exact_rest l.block-iterator ≡ drop l.end l.text)
    × (l.at ≤ l.end) × (l.end ≤ length l.text)
    × ((k : ℕ) → l.at ≤ k → k < l.end → g.C.Class.holds l.class (byte_at l.text k) ≡ false)
