-- `luck_utf8::utf8::highest` meets its contract. The loop's invariant: no byte passed is above `high`. Assumes nothing.
use Prim.Native.Nat.{ℕ, ◌≤◌, ◌<◌}
use Rattle.luck_text.specs.Bytes.{byte_at}
use Rattle.luck_utf8.proofs.utf8.highest.Given as goal

abbrev pub invariant-loop-byte : goal.invariant-loop-byte
invariant-loop-byte l = (k : ℕ) → k < l.byte-index → byte_at l.block k ≤ l.high
