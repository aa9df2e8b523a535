-- `luck_output::character::write_five_or_six` meets its contract: four bytes as `write_four` writes them, and one or two more.
use mathlib.Core.Path.{sym, ap}
use mathlib.Core.List.{List}
use Prim.Native.Nat.{ℕ, ◌+◌, ◌/◌, ◌≤◌, ◌<◌}
use native.Mathlib.Nat.{div-div-eq-div-mul}
use native.Mathlib.Omega.{arith}
use lib.ListN.{length, length-set}
use Rattle.luck_utf8.specs.Utf8.{six_bits, last_code, utf8_bytes}
use Rattle.luck_utf8.proofs.CodePoints.{five_bytes, six_bytes}
use Rattle.luck_output.proofs.Characters.{sets_more}
use Rattle.luck_output.proofs.character.write_five_or_six.Goals as goal

-- there is room for the bytes, in each branch
module _ (output : List ℕ) (at code : ℕ) (fits : at + length (utf8_bytes code) ≤ length output) where
  room_five : 0x20_0000 ≤ code → code < 0x400_0000 → at + 5 ≤ length output
  unfolding six_bits
  room_five l h = rw (five_bytes code l h) at fits

  room_six : 0x400_0000 ≤ code → code ≤ last_code → at + 6 ≤ length output
  unfolding six_bits
  room_six l h = rw (six_bytes code l h) at fits

pub write_four-requires : goal.write_four-requires
write_four-requires c = (omega (arith, c.if-code-lt67108864.true), omega (arith, room_five c.args.output.now c.args.at c.args.code c.requires.2 c.requires.0 c.if-code-lt67108864.true))

pub bounds-output-at : goal.bounds-output-at
bounds-output-at c = omega (arith, room_five c.args.output.now c.args.at c.args.code c.requires.2 c.requires.0 c.if-code-lt67108864.true)

pub returns-then-code-lt67108864 : goal.returns-then-code-lt67108864
unfolding six_bits
returns-then-code-lt67108864 c =
    let code = c.args.code in
    let e = five_bytes code c.requires.0 c.if-code-lt67108864.true in
    let four = c.write_four.ensures in
    (sym (ap length e), rw (e, c.tail_byte.ensures) (sets_more c.args.output.now c.args.at 0xF8 3 code four))

pub write_four-requires-2 : goal.write_four-requires-2
write_four-requires-2 c = (omega (arith, c.requires.1), omega (arith, room_six c.args.output.now c.args.at c.args.code c.requires.2 c.if-code-lt67108864.false c.requires.1))

pub bounds-output-at-2 : goal.bounds-output-at-2
bounds-output-at-2 c = omega (arith, room_six c.args.output.now c.args.at c.args.code c.requires.2 c.if-code-lt67108864.false c.requires.1)

pub bounds-output-at-3 : goal.bounds-output-at-3
bounds-output-at-3 c = simp length-set (omega (arith, room_six c.args.output.now c.args.at c.args.code c.requires.2 c.if-code-lt67108864.false c.requires.1))

pub returns : goal.returns
unfolding six_bits
returns c =
    let o = c.args.output.now in
    let at = c.args.at in
    let code = c.args.code in
    let e = six_bytes code c.if-code-lt67108864.false c.requires.1 in
    let four = c.write_four-2.ensures in
    let five = sets_more o at 0xFC 3 (code / 0x40) (rw (← div-div-eq-div-mul code 0x40 0x40) at four) in (
      sym (ap length e),
      rw (e, c.tail_byte-2.ensures, c.tail_byte-3.ensures) (sets_more o at 0xFC 4 code five),
    )
