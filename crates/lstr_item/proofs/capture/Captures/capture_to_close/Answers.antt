-- `lstr_item::capture::Captures::capture_to_close` meets its contract. Assumes nothing.
use Rattle.std.proofs.Common.{sym, ◌∙◌, arith}
use Rattle.lstr_item.proofs.Captures.{close_none, close_last, close_earlier}
use Rattle.lstr_item.proofs.capture.Captures.capture_to_close.Goals as goal

pub returns-then-self-last : goal.returns-then-self-last
returns-then-self-last c =
    (sym (c.loop-last.invariant ∙ close_last _ _ c.loop-last-test.true c.if-self-last.true), omega arith)

pub loop-last-preserved : goal.loop-last-preserved
loop-last-preserved c = c.loop-last.invariant ∙ close_earlier _ _ c.loop-last-test.true c.if-self-last.false

pub returns : goal.returns
returns c = (sym (c.loop-last.invariant ∙ close_none _ _ c.loop-last-test.false), tt)
