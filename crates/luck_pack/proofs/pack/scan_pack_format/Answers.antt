-- `luck_pack::pack::scan_pack_format` meets its contract. Assumes nothing.
use mathlib.Core.Path.{◌≡◌, sym, ap, ◌∙◌}
use Prim.Native.Nat.{◌+◌}
use native.Mathlib.Omega.{arith}
use mathlib.Core.Logic.{inl, inr}
use Rattle.std.proofs.lemmas.Result.{err_from_is_err_and}
use Rattle.luck_pack.specs.Pack.{pack_state}
use Rattle.luck_pack.specs.Inner.{with_value}
use Rattle.luck_pack.proofs.Packs.{on, start, goes_on, stops, done, counted}
use Rattle.luck_pack.proofs.pack.scan_pack_format.Goals as goal
use Rattle.luck_pack.proofs.pack.scan_pack_format.Goals.{then-turn, else-turn}

pub loop-at-init : goal.loop-at-init
loop-at-init c = (omega arith, omega arith, start c.args.is_packsize c.args.text.now)

pub loop-at-preserved : goal.loop-at-preserved
loop-at-preserved c =
    let a = c.args in
    let l = c.loop-at in
    let t = c.in_ok-turn.turn in
    let i = c.in_ok-turn.ensures.goes_in in
    let walked = goes_on a.is_packsize a.text.now l.at l.values l.alignment _ l.invariant.2 t.width _ i.0 i.1 (c.in_ok-turn.ensures.turns l.values) in
    let same : with_value t.has_value l.values t.alignment ≡ pack_state c.if-turn.values t.alignment =
    counted t.has_value l.values t.alignment c.if-turn.values
    (elim c.if-turn.branch [ then-turn w ↦ inl (w.if-turn.true, w.values-is) | else-turn w ↦ inr (w.if-turn.false, w.values-is) ]) in (
      omega (arith, i.1),
      elim c.if-turn.branch [ then-turn w ↦ omega (arith, i.0) | else-turn w ↦ omega (arith, i.0) ],
      ap (on a.is_packsize a.text.now (l.at + t.width)) (sym same) ∙ walked,
    )

pub returns-in_err-turn : goal.returns-in_err-turn
returns-in_err-turn c =
    let a = c.args in
    let l = c.loop-at in
    let p = err_from_is_err_and c.from_residual.result c.from_residual.ensures.1 in
    rw (p.1, p.2) (stops a.is_packsize a.text.now l.at l.values l.alignment _ l.invariant.2 _ c.loop-at-test.true (c.in_err-turn.ensures.turns l.values))

pub returns : goal.returns
returns c =
    let a = c.args in
    let l = c.loop-at in
    done a.is_packsize a.text.now l.at l.values l.alignment _ l.invariant.2 c.loop-at-test.false
