-- `luck_utf8::utf8::sequences` meets its contract. The loop's invariant: the walk from `at` is the walk from `from`. Assumes nothing.
use mathlib.Core.Path.{sym, ◌∙◌}
use native.Mathlib.Omega.{arith}
use Rattle.luck_utf8.proofs.Sequences.{Formed, formed, walk_sequence}
use Rattle.luck_utf8.proofs.utf8.sequences.Goals as goal

-- the sequence at `at` ends in the text
whole : (c : goal.Else-width-eq0)
    → Formed c.args.text.now c.loop-at.at c.sequence-width.result
whole c = formed _ _ _ c.sequence-width.ensures c.if-width-eq0.false

pub overflow_add-at : goal.overflow_add-at
overflow_add-at c = omega (arith, whole c)

pub loop-at-preserved : goal.loop-at-preserved
loop-at-preserved c =
    let l = c.loop-at in
    let text = c.args.text.now in
    let w = c.sequence-width in
    ((whole c).inside, sym (walk_sequence text l.at w.result w.ensures c.if-width-eq0.false (whole c).inside) ∙ l.invariant.1)
