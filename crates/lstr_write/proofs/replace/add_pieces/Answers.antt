-- `lstr_write::replace::add_pieces` meets its contract. Assumes nothing.
use Rattle.std.proofs.Common.{◌+◌, get_or, arith}
use Rattle.luck_replacement.specs.Replacement.{literal, escaped}
use Rattle.lstr_write.specs.Replace.{add_piece}
use Rattle.lstr_item.specs.declared.error.LuaError.TheVariants as error
use Rattle.lstr_write.specs.declared.stop.Stop.TheVariants as stop
use Rattle.std.proofs.lemmas.Result.{err_from_is_err_and}
use Rattle.lstr_write.proofs.Outputs as outputs
use Rattle.lstr_write.proofs.Replaced as replaced
use Rattle.lstr_write.proofs.replace.add_pieces.Goals as goal

pub loop-read-preserved-then-byte-ne37 : goal.loop-read-preserved-then-byte-ne37
unfolding add_piece
loop-read-preserved-then-byte-ne37 c =
    let l = c.loop-read in
    let a = c.args in
    replaced.piece_done _ _ _ _ a.is_strict a.replacement.now a.at a.output.now l.read l.next l.output l.invariant
    (literal (get_or a.replacement.now l.read 0)) (l.read + 1) (replaced.at_literal a.replacement.now l.read c.loop-read-test.true c.if-byte-ne37.true)
    _ c.append_byte.auto.output (omega arith) _ c.in_ok-next.ensures

pub returns-in_err-next : goal.returns-in_err-next
unfolding add_piece
returns-in_err-next c =
    let l = c.loop-read in
    let a = c.args in
    let p = err_from_is_err_and c.from_residual.result c.from_residual.ensures.1 in
    rw (p.1, p.2)
    (replaced.piece_stops _ _ _ _ a.is_strict a.replacement.now a.at a.output.now l.read l.next l.output l.invariant
    (literal (get_or a.replacement.now l.read 0)) (l.read + 1) (replaced.at_literal a.replacement.now l.read c.loop-read-test.true c.if-byte-ne37.true)
    _ c.append_byte.auto.output _ c.in_err-next.ensures)

pub loop-read-preserved : goal.loop-read-preserved
loop-read-preserved c =
    let l = c.loop-read in
    let a = c.args in
    replaced.piece_done _ _ _ _ a.is_strict a.replacement.now a.at a.output.now l.read l.next l.output l.invariant
    (escaped (get_or a.replacement.now (l.read + 1) 0)) (l.read + 1 + 1)
    (replaced.at_escape a.replacement.now l.read c.loop-read-test.true c.if-byte-ne37.false c.if-read-replacement.true)
    _ c.add_escape.auto.output (omega arith) _ c.in_ok-next-2.ensures

pub returns-in_err-next-2 : goal.returns-in_err-next-2
returns-in_err-next-2 c =
    let l = c.loop-read in
    let a = c.args in
    let p = err_from_is_err_and c.from_residual-in_err-next-2.result c.from_residual-in_err-next-2.ensures.1 in
    rw (p.1, p.2)
    (replaced.piece_stops _ _ _ _ a.is_strict a.replacement.now a.at a.output.now l.read l.next l.output l.invariant
    (escaped (get_or a.replacement.now (l.read + 1) 0)) (l.read + 1 + 1)
    (replaced.at_escape a.replacement.now l.read c.loop-read-test.true c.if-byte-ne37.false c.if-read-replacement.true)
    _ c.add_escape.auto.output _ c.in_err-next-2.ensures)

pub returns-then-is_strict : goal.returns-then-is_strict
returns-then-is_strict c =
    let l = c.loop-read in
    let a = c.args in
    outputs.stops a.at a.output.now l.next l.output l.invariant.left.upto (stop.Raised error.InvalidPercent) _
    (replaced.lone_raises _ _ _ _ a.is_strict a.replacement.now a.at a.output.now l.read l.next l.output l.invariant
    c.loop-read-test.true c.if-byte-ne37.false c.if-read-replacement.false c.if-is_strict.true)

pub returns-else-is_strict : goal.returns-else-is_strict
returns-else-is_strict c =
    let l = c.loop-read in
    let a = c.args in
    outputs.ends_all a.at a.output.now l.next l.output l.invariant.left.upto _ _ _ c.append_byte-else-is_strict.ensures c.append_byte-else-is_strict.auto.output _
    (replaced.lone_zero _ _ _ _ a.is_strict a.replacement.now a.at a.output.now l.read l.next l.output l.invariant
    c.loop-read-test.true c.if-byte-ne37.false c.if-read-replacement.false c.if-is_strict.false)

pub returns : goal.returns
returns c =
    let l = c.loop-read in
    let a = c.args in
    outputs.stays a.at a.output.now l.next l.output l.invariant.left.upto _
    (replaced.all_pieces _ _ _ _ a.is_strict a.replacement.now a.at a.output.now l.read l.next l.output l.invariant c.loop-read-test.false)
