-- `luck_text::blocks::ByteSought::is_in` meets its contract. The loop's invariant: while it was not found, no byte passed is the one. Assumes nothing.
use mathlib.Core.Path.{◌≡◌}
use mathlib.Core.Bool.{false}
use Prim.Native.Nat.{ℕ, ◌<◌}
use lib.Dec.{eqb}
use Rattle.luck_text.specs.Bytes.{byte_at}
use Rattle.luck_text.proofs.blocks.ByteSought.is_in.Given as goal

abbrev pub invariant-loop-byte : goal.invariant-loop-byte
invariant-loop-byte l = l.found ≡ false → (k : ℕ) → k < l.byte-index → eqb l.self.0 (byte_at l.block k) ≡ false
