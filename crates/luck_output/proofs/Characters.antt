-- The law of a code point's bytes, stored one place after the other.
-- Assumes nothing.
use Prim.Native.Nat.{ℕ, suc, ◌+◌, ◌/◌, ◌%◌}
use native.Mathlib.Omega.{arith}
use mathlib.Core.Path.{◌≡◌}
use mathlib.Core.List.{List, []}
use lib.ListN.{length, set}
use lib.Seq.{sets}
use Rattle.luck_utf8.specs.Utf8.{six_bits}
use Rattle.luck_utf8.proofs.CodePoints.{six_bits_length, six_bits_append}
use Rattle.luck_output.proofs.Outputs.{sets_last}

-- after the bytes of all bits but the lowest six, the byte of these
pub sets_more : (output : List ℕ) (at mark n c : ℕ) {written : List ℕ}
    → written ≡ sets output at (six_bits mark n (c / 0x40) [])
    → set written (at + suc n) (0x80 + c % 0x40) ≡ sets output at (six_bits mark (suc n) c [])
unfolding six_bits
sets_more output at mark n c e =
    let bytes = six_bits mark n (c / 0x40) [] in
    let long : suc n ≡ length bytes = omega (arith, six_bits_length mark n (c / 0x40) []) in
    rw (e, long, sets_last bytes output at (0x80 + c % 0x40), ← six_bits_append mark n (c / 0x40) [] _)
