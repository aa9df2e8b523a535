-- `luck_text::scan::OneOfClass::has` meets its contract. The loop's invariant: no byte passed is the one. Assumes nothing.
use mathlib.Core.Path.{◌≡◌}
use lib.ListN.{drop}
use Rattle.luck_text.specs.Bytes.{among}
use Rattle.luck_text.proofs.scan.OneOfClass.has.Given as goal

abbrev pub invariant-loop-one : goal.invariant-loop-one
invariant-loop-one l = among l.byte (drop l.one-index l.one-items) ≡ among l.byte l.one-items
