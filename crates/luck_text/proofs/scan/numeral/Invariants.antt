-- `luck_text::scan::numeral` meets its contract. The number so far stays at the largest. Assumes nothing.
use mathlib.Core.Path.{◌≡◌}
use Prim.Native.Nat.{min}
use lib.ListN.{take}
use Rattle.luck_text.specs.Bytes.{numeral}
use Rattle.luck_text.specs.Scan.{most}
use Rattle.luck_text.proofs.scan.numeral.Given as goal

abbrev pub invariant-loop-byte : goal.invariant-loop-byte
invariant-loop-byte l = l.value ≡ min (numeral l.base (take l.byte-index l.byte-items)) most
