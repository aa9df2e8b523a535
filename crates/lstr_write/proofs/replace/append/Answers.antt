-- `lstr_write::replace::append` meets its contract. Assumes nothing.
use Rattle.std.proofs.Common.{sym, ◌∙◌}
use Rattle.std.proofs.lemmas.Result.{err_from_is_err_and}
use Rattle.lstr_write.proofs.Outputs as outputs
use Rattle.lstr_write.proofs.replace.append.Goals as goal

pub returns-in_err-next : goal.returns-in_err-next
returns-in_err-next c =
    let l = c.loop-byte in
    let a = c.args in
    let p = err_from_is_err_and c.from_residual.result c.from_residual.ensures.1 in
    rw (p.1, p.2)
    (outputs.part_stops a.at a.output.now _ _ _ _ _
    (outputs.next_byte a.at a.output.now a.bytes.now l.byte-index l.next l.output c.loop-byte-test.true l.invariant) _ c.append_byte.auto.output _ c.in_err-next.ensures)

pub loop-byte-preserved : goal.loop-byte-preserved
loop-byte-preserved c =
    let l = c.loop-byte in
    let a = c.args in
    outputs.part_done a.at a.output.now _ _ _ _ _
    (outputs.next_byte a.at a.output.now a.bytes.now l.byte-index l.next l.output c.loop-byte-test.true l.invariant) _ c.append_byte.auto.output _ c.in_ok-next.ensures

pub returns : goal.returns
returns c =
    let l = c.loop-byte in
    let a = c.args in
    outputs.stays a.at a.output.now l.next l.output l.invariant.upto _
    (sym (outputs.none_left _ a.bytes.now l.byte-index _ c.loop-byte-test.false) ∙ l.invariant.is)
