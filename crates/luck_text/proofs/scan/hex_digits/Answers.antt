-- `luck_text::scan::hex_digits` meets its contract. Assumes nothing.
use native.Mathlib.Omega.{arith}
use Rattle.luck_text.specs.Bytes.{is_xdigit}
use Rattle.luck_text.proofs.Bytes.{run_short}
use Rattle.luck_text.proofs.scan.hex_digits.Goals as goal

pub returns-clause-count : goal.returns-clause-count
returns-clause-count c = omega (arith, run_short is_xdigit c.args.text.now c.args.at)
