-- `luck_utf8::utf8::ascii_end` meets its contract. Assumes nothing.
use Prim.Native.Nat.{ℕ, ◌+◌, ◌<◌}
use native.Mathlib.Omega.{arith}
use borrow.Author.Tests.{leb-false}
use Rattle.luck_text.specs.Bytes.{byte_at}
use Rattle.luck_text.proofs.Bytes.{all_between}
use Rattle.luck_utf8.proofs.Sequences.{part_low}
use Rattle.luck_utf8.proofs.utf8.ascii_end.Goals as goal

pub returns-then-text-at-ge32 : goal.returns-then-text-at-ge32
returns-then-text-at-ge32 c =
    let text = c.args.text.now in
    let at = c.args.at in
    let on = c.blocks_without in
    let block = part_low text at 32 (omega arith) (c.is_in.ensures c.if-is_in.false) in (
      omega (arith, on.ensures.after),
      on.ensures.within,
      all_between (λ (k : ℕ). byte_at text k < 0x80) at (at + 32) on.result block (λ k l m. leb-false 0x80 _ (on.ensures.without k l m)),
    )

pub returns-then-not-is_in : goal.returns-then-not-is_in
returns-then-not-is_in c =
    (omega arith, omega arith, part_low c.args.text.now c.args.at 8 (omega arith) (c.is_in-then-text-at-ge8.ensures c.if-not-is_in.true))
