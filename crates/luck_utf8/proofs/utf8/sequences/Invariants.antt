-- `luck_utf8::utf8::sequences` meets its contract. The loop's invariant: the walk from `at` is the walk from `from`. Assumes nothing.
use mathlib.Core.Path.{◌≡◌}
use Prim.Native.Nat.{◌≤◌, ◌-◌}
use lib.ListN.{length}
use Rattle.luck_text.specs.Walk.{walk_from}
use Rattle.luck_utf8.specs.Utf8.{sequence_at, none_ill_formed}
use Rattle.luck_utf8.proofs.utf8.sequences.Given as goal

abbrev pub invariant-loop-at : goal.invariant-loop-at
invariant-loop-at l =
    (l.at ≤ length l.text)
    × (walk_from (sequence_at l.text) none_ill_formed (length l.text) l.at tt ≡ walk_from (sequence_at l.text) none_ill_formed (length l.text) l.from tt)

abbrev pub decreases-loop-at : goal.decreases-loop-at
decreases-loop-at l = length l.text - l.at
