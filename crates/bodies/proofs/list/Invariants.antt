-- `bodies::list` is safe and ends.
use Rattle.std.proofs.Common.{length}
use Rattle.bodies.specs.Held.{HeldWithin}
use Rattle.bodies.proofs.list.Given as goal

abbrev pub invariant-turns : goal.invariant-turns
invariant-turns l = HeldWithin l.held (length l.input)
