-- `luck_format::format::scan_format_string` meets its contract. Assumes nothing.
use mathlib.Core.Path.{sym, ◌∙◌}
use native.Mathlib.Omega.{arith}
use Prim.Native.Nat.{◌+◌}
use Rattle.std.proofs.lemmas.Result.{err_from_is_err_and}
use Rattle.luck_format.proofs.Formats as formats
use Rattle.luck_format.proofs.format.scan_format_string.Goals as goal

pub loop-at-init : goal.loop-at-init
loop-at-init c = (omega arith, omega arith, formats.start c.args.rules c.args.text.now)

pub loop-at-preserved-then-text-at-ne37 : goal.loop-at-preserved-then-text-at-ne37
loop-at-preserved-then-text-at-ne37 c =
    let a = c.args in
    let l = c.loop-at in
    (omega arith, omega arith, formats.plain_turn a.rules a.text.now l.at l.count _ l.invariant.2 c.loop-at-test.true c.if-text-at-ne37.true)

pub loop-at-preserved-then-byte_at-eq37 : goal.loop-at-preserved-then-byte_at-eq37
loop-at-preserved-then-byte_at-eq37 c =
    let a = c.args in
    let l = c.loop-at in
    let on = formats.percents a.rules a.text.now l.at l.count _ l.invariant.2 c.loop-at-test.true c.if-text-at-ne37.false (sym c.byte_at.ensures ∙ c.if-byte_at-eq37.true) in
    (omega arith, on.0, on.1)

pub loop-at-preserved : goal.loop-at-preserved
loop-at-preserved c =
    let a = c.args in
    let l = c.loop-at in
    let found = c.in_ok-at.ensures in
    let i = found.inside in (
      omega (arith, i.0),
      i.1,
      formats.goes_on a.rules a.text.now l.at l.count _ l.invariant.2 c.loop-at-test.true c.if-text-at-ne37.false _ (l.count + 1) (found.turns l.count) i.0 i.1,
    )

pub returns-in_err-at : goal.returns-in_err-at
returns-in_err-at c =
    let a = c.args in
    let l = c.loop-at in
    let p = err_from_is_err_and c.from_residual.result c.from_residual.ensures.1 in
    rw (p.1, p.2) (formats.stops a.rules a.text.now l.at l.count _ l.invariant.2 c.loop-at-test.true c.if-text-at-ne37.false _ (c.in_err-at.ensures.turns l.count))

pub returns : goal.returns
returns c =
    let a = c.args in
    let l = c.loop-at in
    formats.done a.rules a.text.now l.at l.count _ l.invariant.2 c.loop-at-test.false
