-- `lstr_item::single::is_any_of` meets its contract. The loop's invariant: the elements from here on give the whole answer.
-- Assumes nothing.
use Prim.Native.Nat.{◌+◌, ◌≤◌}
use native.Mathlib.Omega.{arith}
use mathlib.Core.Path.{◌≡◌, sym, ◌∙◌}
use mathlib.Core.Logic.{◌⊎◌, inl, inr}
use mathlib.Core.Bool.{true, false}
use borrow.Author.Tests.{eq-eqb, ne_eqb}
use Rattle.luck_text.specs.Bytes.{byte_at, between}
use Rattle.luck_text.proofs.Bytes.{within, below, above}
use Rattle.lstr_class.specs.Inner.{class_in}
use Rattle.lstr_item.proofs.Sets.{any_end, any_escape, any_range, any_plain}
use Rattle.lstr_item.proofs.single.is_any_of.Goals as goal
use Rattle.lstr_item.proofs.single.is_any_of.Goals.{else-element-byte-via-then-element-byte+else-byte-pattern, else-element-byte-via-else-element-byte, else-closing-at-gt2-via-then-closing-at-gt2+else-pattern-next-eq45, else-closing-at-gt2-via-else-closing-at-gt2}

pub returns-then-match_class : goal.returns-then-match_class
returns-then-match_class c =
    let a = c.args in
    let l = c.loop-at in
    sym (l.invariant ∙ any_escape a.state.now.pattern.now a.closing (class_in a.state.now.classes.now) a.byte l.at c.loop-at-test.true true c.if-element-eq37.true (sym c.match_class.ensures ∙ c.if-match_class.true))

pub returns-then-byte-pattern : goal.returns-then-byte-pattern
returns-then-byte-pattern c =
    let a = c.args in
    let l = c.loop-at in
    sym (l.invariant ∙ any_range a.state.now.pattern.now a.closing (class_in a.state.now.classes.now) a.byte l.at c.loop-at-test.true true c.if-element-eq37.false c.if-pattern-next-eq45.true (omega (arith, c.if-closing-at-gt2.true)) (within (byte_at a.state.now.pattern.now l.at) (byte_at a.state.now.pattern.now (l.at + 2)) a.byte c.if-element-byte.true c.if-byte-pattern.true))

pub returns-then-element-byte-2 : goal.returns-then-element-byte-2
returns-then-element-byte-2 c =
    let a = c.args in
    let l = c.loop-at in
    let no_range : (byte_at a.state.now.pattern.now (l.at + 1) ≡ 45 → ⊥) ⊎ (a.closing ≤ l.at + 2) =
    elim c.else-closing-at-gt2.branch [
      | else-closing-at-gt2-via-then-closing-at-gt2+else-pattern-next-eq45 w ↦ inl w.if-pattern-next-eq45.false
      | else-closing-at-gt2-via-else-closing-at-gt2 w ↦ inr (omega (arith, w.if-closing-at-gt2.false))
    ] in
    sym (l.invariant ∙ any_plain a.state.now.pattern.now a.closing (class_in a.state.now.classes.now) a.byte l.at c.loop-at-test.true true c.if-element-eq37.false no_range (eq-eqb (byte_at a.state.now.pattern.now l.at) a.byte c.if-element-byte-2.true))

pub loop-at-preserved-then-element-eq37 : goal.loop-at-preserved-then-element-eq37
loop-at-preserved-then-element-eq37 c =
    let a = c.args in
    let l = c.loop-at in
    l.invariant ∙ any_escape a.state.now.pattern.now a.closing (class_in a.state.now.classes.now) a.byte l.at c.loop-at-test.true false c.if-element-eq37.true (sym c.match_class.ensures ∙ c.if-match_class.false)

pub loop-at-preserved-then-pattern-next-eq45 : goal.loop-at-preserved-then-pattern-next-eq45
loop-at-preserved-then-pattern-next-eq45 c =
    let a = c.args in
    let l = c.loop-at in
    let low = byte_at a.state.now.pattern.now l.at in
    let high = byte_at a.state.now.pattern.now (l.at + 2) in
    let outside : between low high a.byte ≡ false =
    elim c.else-element-byte.branch [
      | else-element-byte-via-then-element-byte+else-byte-pattern w ↦ above low high a.byte w.if-byte-pattern.false
      | else-element-byte-via-else-element-byte w ↦ below low high a.byte w.if-element-byte.false
    ] in
    l.invariant ∙ any_range a.state.now.pattern.now a.closing (class_in a.state.now.classes.now) a.byte l.at c.loop-at-test.true false c.if-element-eq37.false c.if-pattern-next-eq45.true (omega (arith, c.if-closing-at-gt2.true)) outside

pub loop-at-preserved : goal.loop-at-preserved
loop-at-preserved c =
    let a = c.args in
    let l = c.loop-at in
    let no_range : (byte_at a.state.now.pattern.now (l.at + 1) ≡ 45 → ⊥) ⊎ (a.closing ≤ l.at + 2) =
    elim c.else-closing-at-gt2.branch [
      | else-closing-at-gt2-via-then-closing-at-gt2+else-pattern-next-eq45 w ↦ inl w.if-pattern-next-eq45.false
      | else-closing-at-gt2-via-else-closing-at-gt2 w ↦ inr (omega (arith, w.if-closing-at-gt2.false))
    ] in
    l.invariant ∙ any_plain a.state.now.pattern.now a.closing (class_in a.state.now.classes.now) a.byte l.at c.loop-at-test.true false c.if-element-eq37.false no_range (ne_eqb (byte_at a.state.now.pattern.now l.at) a.byte c.if-element-byte-2.false)

pub returns : goal.returns
returns c =
    let a = c.args in
    let l = c.loop-at in
    any_end a.state.now.pattern.now a.closing (class_in a.state.now.classes.now) a.byte l.at c.loop-at-test.false ∙ sym l.invariant
