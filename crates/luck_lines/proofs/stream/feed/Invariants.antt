-- `luck_lines::stream::feed` meets its contract. The invariant: from here the call gives the whole answer. Assumes nothing.
use mathlib.Core.Path.{◌≡◌}
use Prim.Native.Nat.{◌-◌, ◌≤◌}
use lib.ListN.{length, take, drop}
use Rattle.luck_lines.specs.Stream.{feed_state, feed}
use Rattle.luck_lines.proofs.Streams as streams
use Rattle.luck_lines.proofs.stream.feed.Given as goal

abbrev pub invariant-loop-used : goal.invariant-loop-used
invariant-loop-used l =
    (l.used ≤ length l.input) × (l.wrote ≤ length l.output) × (length l.output ≡ length l.initial.output) × (drop l.wrote l.output ≡ drop l.wrote l.initial.output)
    × (streams.on l.input (length l.initial.output) l.used (feed_state (take l.wrote l.output) l.so_far) ≡ feed l.input (length l.initial.output) l.initial.so_far)

abbrev pub decreases-loop-used : goal.decreases-loop-used
decreases-loop-used l = length l.input - l.used
