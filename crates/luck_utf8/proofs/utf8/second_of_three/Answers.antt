-- `luck_utf8::utf8::second_of_three` meets its contract: the rows of E0 and ED, and the others. Assumes nothing.
use mathlib.Core.Path.{ap}
use native.Mathlib.Omega.{arith}
use Rattle.luck_text.specs.Bytes.{when◌then◌else◌}
use Rattle.luck_utf8.specs.Utf8.{rfc3629, tails_of}
use Rattle.luck_utf8.proofs.Sequences.{row_three}
use Rattle.luck_utf8.proofs.utf8.second_of_three.Goals as goal

pub returns-in-224 : goal.returns-in-224
unfolding rfc3629 tails_of when◌then◌else◌
returns-in-224 c = ap (tails_of rfc3629) c.in-224.is

pub returns-in-237 : goal.returns-in-237
unfolding rfc3629 tails_of when◌then◌else◌
returns-in-237 c = ap (tails_of rfc3629) c.in-237.is

pub returns-in_default : goal.returns-in_default
returns-in_default c = row_three c.args.lead c.requires.0 (omega arith) (omega arith) c.requires.1
