-- `luck_text::scan::hex_value` meets its contract. Assumes nothing.
use native.Mathlib.Omega.{arith}
use Rattle.luck_text.proofs.Bytes.{hex_value, hex_halves}
use Rattle.luck_text.proofs.scan.hex_value.Goals as goal

pub returns : goal.returns
returns c = (hex_halves c.args.digit c.requires, omega (arith, hex_halves c.args.digit c.requires, hex_value c.args.digit c.requires))
