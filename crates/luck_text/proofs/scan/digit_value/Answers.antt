-- `luck_text::scan::digit_value` meets its contract. Assumes nothing.
use native.Mathlib.Omega.{arith}
use Rattle.luck_text.proofs.Bytes.{digit_low, digit_capital, digit_high}
use Rattle.luck_text.proofs.scan.digit_value.Goals as goal

pub returns-in-0-to-57 : goal.returns-in-0-to-57
returns-in-0-to-57 c = let e = digit_low c.args.byte (omega arith) in (omega arith, omega arith)

pub returns-in-0-to-70 : goal.returns-in-0-to-70
returns-in-0-to-70 c = let e = digit_capital c.args.byte (omega arith) (omega arith) in (omega arith, omega arith)

pub returns-in_default : goal.returns-in_default
returns-in_default c = let e = digit_high c.args.byte (omega arith) in (omega arith, omega arith)
