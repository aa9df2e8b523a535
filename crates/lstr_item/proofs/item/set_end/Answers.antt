-- `lstr_item::item::set_end` meets its contract. The loop's invariant: the members from `at` on end where the set ends.
-- Assumes nothing.
use mathlib.Core.Path.{◌≡◌, ◌∙◌}
use Prim.Native.Nat.{◌+◌, ◌≤◌, ◌<◌}
use native.Mathlib.Omega.{arith}
use lib.ListN.{length}
use Rattle.luck_pattern.specs.Reading.{first_member}
use Rattle.luck_pattern.proofs.Patterns.{set_begins, set_first, set_escaped, set_plain}
use Rattle.luck_pattern.proofs.Places.{first_behind}
use Rattle.lstr_item.proofs.Reading.{after_caret, after_bracket, after_last, closes_nowhere, closes_here, closes_cut}
use Rattle.lstr_item.proofs.item.set_end.Goals as goal
use Rattle.lstr_item.proofs.item.set_end.Goals.{then-at-pattern+then-pattern-at-eq94, then-at-pattern+else-pattern-at-eq94, else-at-pattern}

pub loop-at-init : goal.loop-at-init
loop-at-init c =
    let a = c.args in
    let pattern = a.pattern.now in
    let first = c.if-at-pattern.at in
    let is : first ≡ first_member pattern a.opening =
    elim c.if-at-pattern.branch [
      | then-at-pattern+then-pattern-at-eq94 w ↦ let two : first ≡ a.opening + 2 = omega (arith, w.at-is) in two ∙ after_caret pattern a.opening w.if-pattern-at-eq94.true
      | then-at-pattern+else-pattern-at-eq94 w ↦ w.at-is ∙ after_bracket pattern a.opening w.if-pattern-at-eq94.false
      | else-at-pattern w ↦ w.at-is ∙ after_last pattern a.opening w.if-at-pattern.false
    ] in
    let inside : first ≤ length pattern =
    elim c.if-at-pattern.branch [
      | then-at-pattern+then-pattern-at-eq94 w ↦ omega (arith, w.if-at-pattern.true, w.at-is)
      | then-at-pattern+else-pattern-at-eq94 w ↦ omega (arith, w.if-at-pattern.true, w.at-is)
      | else-at-pattern w ↦ omega (arith, w.at-is, c.requires)
    ] in
    let behind : a.opening < first = omega (arith, is, first_behind pattern a.opening) in
    (omega arith, inside, behind, set_begins pattern a.opening first is)

pub returns-then-first-at : goal.returns-then-first-at
returns-then-first-at c =
    let l = c.loop-at in
    let a = c.args in
    let first = c.if-at-pattern.at in
    (closes_here a.pattern.now a.opening first l.at l.invariant.3 c.loop-at-test.true c.in-93.is c.if-first-at.true, omega arith)

pub returns-then-pattern-at-eq1 : goal.returns-then-pattern-at-eq1
returns-then-pattern-at-eq1 c =
    let l = c.loop-at in
    let a = c.args in
    let first = c.if-at-pattern.at in
    (closes_cut a.pattern.now a.opening first l.at l.invariant.3 c.loop-at-test.true c.in-37.is c.if-pattern-at-eq1.true, tt)

pub loop-at-preserved-in-93 : goal.loop-at-preserved-in-93
loop-at-preserved-in-93 c =
    let l = c.loop-at in
    let a = c.args in
    let first = c.if-at-pattern.at in
    (omega arith, omega arith, l.invariant.2, set_first a.pattern.now a.opening first l.at l.invariant.3 c.loop-at-test.true l.invariant.0 c.in-93.is (omega (arith, c.if-first-at.false)))

pub loop-at-preserved-in-37 : goal.loop-at-preserved-in-37
loop-at-preserved-in-37 c =
    let l = c.loop-at in
    let a = c.args in
    let first = c.if-at-pattern.at in
    (omega arith, omega arith, l.invariant.2, set_escaped a.pattern.now a.opening first l.at l.invariant.3 c.loop-at-test.true l.invariant.0 c.in-37.is c.if-pattern-at-eq1.false)

pub loop-at-preserved : goal.loop-at-preserved
loop-at-preserved c =
    let l = c.loop-at in
    let a = c.args in
    let first = c.if-at-pattern.at in
    (omega arith, omega arith, l.invariant.2, set_plain a.pattern.now a.opening first l.at l.invariant.3 c.loop-at-test.true l.invariant.0 (λ e. omega arith) (λ e. omega arith))

pub returns : goal.returns
returns c =
    let l = c.loop-at in
    let a = c.args in
    let first = c.if-at-pattern.at in
    (closes_nowhere a.pattern.now a.opening first l.at l.invariant.3 c.loop-at-test.false, tt)
