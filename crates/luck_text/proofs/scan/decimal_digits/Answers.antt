-- `luck_text::scan::decimal_digits` meets its contract. Assumes nothing.
use native.Mathlib.Omega.{arith}
use Rattle.luck_text.specs.Bytes.{is_digit}
use Rattle.luck_text.proofs.Bytes.{run_short}
use Rattle.luck_text.proofs.scan.decimal_digits.Goals as goal

pub returns-clause-count : goal.returns-clause-count
returns-clause-count c = omega (arith, run_short is_digit c.args.text.now c.args.at)
