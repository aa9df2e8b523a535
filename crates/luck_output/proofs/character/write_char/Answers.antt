-- `luck_output::character::write_char` meets its contract, a law of `CodePoints` for each width.
use mathlib.Core.Path.{◌≡◌, refl, sym, ap}
use Prim.Native.Nat.{ℕ, ◌+◌, ◌/◌, ◌≤◌, ◌<◌}
use native.Mathlib.Nat.{div-div-eq-div-mul}
use native.Mathlib.Omega.{arith}
use mathlib.Core.List.{List}
use lib.ListN.{length, length-set}
use Rattle.luck_utf8.specs.Utf8.{six_bits, utf8_bytes}
use Rattle.luck_utf8.proofs.CodePoints.{one_byte, two_bytes, three_bytes, four_bytes}
use Rattle.luck_output.proofs.Characters.{sets_more}
use Rattle.luck_output.proofs.character.write_char.Goals as goal

-- there is room for the bytes, in each branch
module _ (output : List ℕ) (at code : ℕ) (fits : at + length (utf8_bytes code) ≤ length output) where
  room : {bytes : List ℕ} → utf8_bytes code ≡ bytes → at + length bytes ≤ length output
  room e = rw e at fits

  room_one : code < 0x80 → at + 1 ≤ length output
  room_one h = room (one_byte code h)

  room_two : 0x80 ≤ code → code < 0x800 → at + 2 ≤ length output
  unfolding six_bits
  room_two l h = room (two_bytes code l h)

  room_three : 0x800 ≤ code → code < 0x10000 → at + 3 ≤ length output
  unfolding six_bits
  room_three l h = room (three_bytes code l h)

  room_four : 0x10000 ≤ code → code < 0x20_0000 → at + 4 ≤ length output
  unfolding six_bits
  room_four l h = room (four_bytes code l h)

pub bounds-output-at : goal.bounds-output-at
bounds-output-at c = omega (arith, room_one c.args.output.now c.args.at c.args.code c.requires.1 c.if-code-lt128.true)

pub returns-then-code-lt128 : goal.returns-then-code-lt128
returns-then-code-lt128 c =
    let e = one_byte c.args.code c.if-code-lt128.true in
    (sym (ap length e), rw e refl)

pub bounds-output-at-then-code-lt2048 : goal.bounds-output-at-then-code-lt2048
bounds-output-at-then-code-lt2048 c = omega (arith, room_two c.args.output.now c.args.at c.args.code c.requires.1 c.if-code-lt128.false c.if-code-lt2048.true)

pub bounds-output-at-then-code-lt2048-2 : goal.bounds-output-at-then-code-lt2048-2
bounds-output-at-then-code-lt2048-2 c = simp length-set (omega (arith, room_two c.args.output.now c.args.at c.args.code c.requires.1 c.if-code-lt128.false c.if-code-lt2048.true))

pub returns-then-code-lt2048 : goal.returns-then-code-lt2048
unfolding six_bits
returns-then-code-lt2048 c =
    let e = two_bytes c.args.code c.if-code-lt128.false c.if-code-lt2048.true in
    let two = sets_more c.args.output.now c.args.at 0xC0 0 c.args.code refl in
    (sym (ap length e), rw (e, c.tail_byte.ensures) two)

pub bounds-output-at-then-code-lt65536 : goal.bounds-output-at-then-code-lt65536
bounds-output-at-then-code-lt65536 c = omega (arith, room_three c.args.output.now c.args.at c.args.code c.requires.1 c.if-code-lt2048.false c.if-code-lt65536.true)

pub bounds-output-at-then-code-lt65536-2 : goal.bounds-output-at-then-code-lt65536-2
bounds-output-at-then-code-lt65536-2 c = simp length-set (omega (arith, room_three c.args.output.now c.args.at c.args.code c.requires.1 c.if-code-lt2048.false c.if-code-lt65536.true))

pub bounds-output-at-then-code-lt65536-3 : goal.bounds-output-at-then-code-lt65536-3
bounds-output-at-then-code-lt65536-3 c = simp length-set (omega (arith, room_three c.args.output.now c.args.at c.args.code c.requires.1 c.if-code-lt2048.false c.if-code-lt65536.true))

pub returns-then-code-lt65536 : goal.returns-then-code-lt65536
unfolding six_bits
returns-then-code-lt65536 c =
    let o = c.args.output.now in
    let at = c.args.at in
    let code = c.args.code in
    let e = three_bytes code c.if-code-lt2048.false c.if-code-lt65536.true in (
      sym (ap length e),
      rw (e, c.tail_byte-then-code-lt65536.ensures, c.tail_byte-then-code-lt65536-2.ensures, ← div-div-eq-div-mul code 0x40 0x40)
          (sets_more o at 0xE0 1 code (sets_more o at 0xE0 0 (code / 0x40) refl)),
    )

pub write_four-requires : goal.write_four-requires
write_four-requires c =
    let h = c.if-code-lt2097152.true in
    (omega arith, room_four c.args.output.now c.args.at c.args.code c.requires.1 c.if-code-lt65536.false h)

pub returns-then-code-lt2097152 : goal.returns-then-code-lt2097152
unfolding six_bits
returns-then-code-lt2097152 c =
    let l = c.if-code-lt65536.false in
    let e = four_bytes c.args.code l c.if-code-lt2097152.true in
    (sym (ap length e), rw e c.write_four.ensures)
