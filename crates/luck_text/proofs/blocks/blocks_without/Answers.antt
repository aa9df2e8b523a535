-- `luck_text::blocks::blocks_without` meets its contract. The loop's invariant: no byte passed is of the class. Assumes nothing.
use mathlib.Core.Path.{◌≡◌, sym, ◌∙◌}
use mathlib.Core.Bool.{false}
use Prim.Native.Nat.{ℕ}
use native.Mathlib.Omega.{arith}
use mathlib.Core.List.{◌++◌}
use lib.ListN.{length, drop}
use Rattle.std.specs.Slice.Iter.{chunks_exact_rest}
use Rattle.luck_text.proofs.Bytes.{block_rest, block_fits, block_more}
use Rattle.luck_text.proofs.blocks.blocks_without.Goals as goal

pub loop-block-preserved : goal.loop-block-preserved
loop-block-preserved g c =
    let l = c.loop-block in
    let text = c.args.text.now in
    let block = c.in-Some.block.now in
    let rest = chunks_exact_rest c.next.new.self in
    let steps = c.in-Some.ensures.steps in
    let here : drop l.end text ≡ block ++ rest = sym l.invariant.3 ∙ steps.1.0 in
    let size : length block ≡ g.row.SIZE = steps.1.1 ∙ l.invariant.2 in (
      omega (arith, steps.0, l.invariant.2, c.requires.size),
      tt,
      steps.0 ∙ l.invariant.2,
      block_rest text block rest l.end g.row.SIZE here size,
      omega arith,
      block_fits text block rest l.end g.row.SIZE here size l.invariant.5,
      block_more text block rest l.end g.row.SIZE here size (λ (b : ℕ). g.C.Class.holds c.args.class.now b ≡ false) c.args.at l.invariant.6 (c.is_in.ensures c.if-is_in.false),
    )
