-- `luck_output::character::char_width` meets its contract. Assumes nothing.
use mathlib.Core.Path.{sym, ap}
use native.Mathlib.Omega.{arith}
use lib.ListN.{length}
use Rattle.luck_utf8.specs.Utf8.{six_bits}
use Rattle.luck_utf8.proofs.CodePoints.{one_byte, two_bytes, three_bytes, four_bytes, five_bytes, six_bytes}
use Rattle.luck_output.proofs.character.char_width.Goals as goal

pub returns-then-code-le127 : goal.returns-then-code-le127
returns-then-code-le127 c = sym (ap length (one_byte c.args.code (omega arith)))

pub returns-then-code-le2047 : goal.returns-then-code-le2047
unfolding six_bits
returns-then-code-le2047 c = sym (ap length (two_bytes c.args.code (omega arith) (omega arith)))

pub returns-then-code-le65535 : goal.returns-then-code-le65535
unfolding six_bits
returns-then-code-le65535 c = sym (ap length (three_bytes c.args.code (omega arith) (omega arith)))

pub returns-then-code-le2097151 : goal.returns-then-code-le2097151
unfolding six_bits
returns-then-code-le2097151 c = sym (ap length (four_bytes c.args.code (omega arith) (omega arith)))

pub returns-then-code-le67108863 : goal.returns-then-code-le67108863
unfolding six_bits
returns-then-code-le67108863 c =
    let code = c.args.code in
    sym (ap length (five_bytes code (omega arith) (omega arith)))

pub returns : goal.returns
unfolding six_bits
returns c =
    let code = c.args.code in
    sym (ap length (six_bytes code (omega arith) (omega arith)))
