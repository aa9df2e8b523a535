-- `luck_output::character::write_four` meets its contract. Assumes nothing.
use mathlib.Core.Path.{refl}
use Prim.Native.Nat.{◌/◌}
use native.Mathlib.Nat.{div-div-eq-div-mul}
use Rattle.luck_utf8.specs.Utf8.{six_bits}
use Rattle.luck_output.proofs.Characters.{sets_more}
use Rattle.luck_output.proofs.character.write_four.Goals as goal

pub returns : goal.returns
unfolding six_bits
returns c =
    let a = c.args in
    let o = a.output.now in
    let bits = a.bits in
    let at = a.at in
    let mark = a.mark in
    rw (
      c.tail_byte.ensures,
      c.tail_byte-2.ensures,
      c.tail_byte-3.ensures,
      ← div-div-eq-div-mul bits 0x1000 0x40,
      ← div-div-eq-div-mul bits 0x40 0x40,
    )
    (sets_more o at mark 2 bits (sets_more o at mark 1 (bits / 0x40) (sets_more o at mark 0 (bits / 0x40 / 0x40) refl)))
