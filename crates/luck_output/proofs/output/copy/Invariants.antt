-- `luck_output::output::copy` meets its contract. The loop's invariant: the bytes passed are in the output. Assumes nothing.
use mathlib.Core.Path.{◌≡◌}
use lib.ListN.{take}
use lib.Seq.{sets}
use Rattle.luck_output.proofs.output.copy.Given as goal

abbrev pub invariant-loop-i : goal.invariant-loop-i
invariant-loop-i l = l.output ≡ sets l.initial.output l.at (take l.i l.bytes)
