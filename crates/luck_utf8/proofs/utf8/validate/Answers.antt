-- `luck_utf8::utf8::validate` meets its contract. The loop's invariant: the walk from `at` is the whole answer. Assumes nothing.
use mathlib.Core.Path.{refl, sym, ◌∙◌}
use native.Mathlib.Omega.{arith}
use lib.ListN.{length}
use Rattle.luck_utf8.specs.Utf8.{sequence_at, none_ill_formed, ill_formed}
use Rattle.luck_text.proofs.Walk.{walk_end}
use Rattle.luck_utf8.proofs.Sequences.{walk_ascii, walk_ill_formed}
use Rattle.luck_utf8.proofs.utf8.validate.Goals as goal

pub loop-at-init : goal.loop-at-init
unfolding ill_formed
loop-at-init c = (omega arith, refl)

pub loop-at-preserved-then-at-end : goal.loop-at-preserved-then-at-end
loop-at-preserved-then-at-end c =
    let l = c.loop-at in
    let text = c.args.text.now in
    let end = c.ascii_end-end in
    (end.ensures.1, sym (walk_ascii text l.at end.result end.ensures.0 end.ensures.1 end.ensures.2) ∙ l.invariant.1)

pub returns-then-at-stop : goal.returns-then-at-stop
returns-then-at-stop c =
    let s = c.sequences-at in
    let text = c.args.text.now in
    let ill = sym (s.ensures.2 c.if-at-stop.true) in
    sym (walk_ill_formed text s.result 0 ill (omega arith) refl) ∙ s.ensures.1 ∙ c.loop-at.invariant.1

pub returns : goal.returns
unfolding none_ill_formed
returns c =
    let l = c.loop-at in
    let text = c.args.text.now in
    sym (walk_end (sequence_at text) none_ill_formed (length text) l.at tt c.loop-at-test.false) ∙ l.invariant.1
