-- `luck_utf8::utf8::second_of_four` meets its contract: the rows of F0 and F4, and the others. Assumes nothing.
use mathlib.Core.Path.{ap}
use native.Mathlib.Omega.{arith}
use Rattle.luck_text.specs.Bytes.{when◌then◌else◌}
use Rattle.luck_utf8.specs.Utf8.{rfc3629, tails_of}
use Rattle.luck_utf8.proofs.Sequences.{row_four}
use Rattle.luck_utf8.proofs.utf8.second_of_four.Goals as goal

pub returns-in-240 : goal.returns-in-240
unfolding rfc3629 tails_of when◌then◌else◌
returns-in-240 c = ap (tails_of rfc3629) c.in-240.is

pub returns-in-244 : goal.returns-in-244
unfolding rfc3629 tails_of when◌then◌else◌
returns-in-244 c = ap (tails_of rfc3629) c.in-244.is

pub returns-in_default : goal.returns-in_default
returns-in_default c = row_four c.args.lead c.requires.0 (omega arith) (omega arith) c.requires.1
