-- `lstr_item::item::read` meets its contract, a law of `Reading` for each way. Assumes nothing.
use native.Mathlib.Omega.{arith}
use Rattle.lstr_item.proofs.Items.{items_end}
use Rattle.lstr_item.proofs.Reading.{position_at, start_at, start_last, end_at, anchor_at, dollar_at, byte_at_lem}
use Rattle.lstr_item.proofs.item.read.Goals as goal

pub returns-then-pattern-at : goal.returns-then-pattern-at
returns-then-pattern-at c =
    let a = c.args in
    items_end a.pattern.now a.at c.if-pattern-at.true

pub returns-then-pattern-next-eq41 : goal.returns-then-pattern-next-eq41
returns-then-pattern-next-eq41 c =
    let a = c.args in
    position_at a.pattern.now a.at c.if-pattern-at.false c.in-40.is c.if-pattern-next-eq41.true

pub returns-then-next-pattern-2 : goal.returns-then-next-pattern-2
returns-then-next-pattern-2 c =
    let a = c.args in
    anchor_at a.pattern.now a.at c.if-pattern-at.false c.in-36.is c.if-next-pattern-2.true

pub returns-else-pattern-next-eq41 : goal.returns-else-pattern-next-eq41
returns-else-pattern-next-eq41 c =
    let a = c.args in
    start_at a.pattern.now a.at c.if-pattern-at.false c.in-40.is c.if-pattern-next-eq41.false

pub returns-else-next-pattern : goal.returns-else-next-pattern
returns-else-next-pattern c =
    let a = c.args in
    start_last a.pattern.now a.at c.if-pattern-at.false c.in-40.is c.if-next-pattern.false

pub returns-in-41 : goal.returns-in-41
returns-in-41 c =
    let a = c.args in
    end_at a.pattern.now a.at c.if-pattern-at.false c.in-41.is

pub returns-else-next-pattern-2 : goal.returns-else-next-pattern-2
returns-else-next-pattern-2 c =
    let a = c.args in
    dollar_at a.pattern.now a.at c.if-pattern-at.false c.in-36.is c.if-next-pattern-2.false c.repeated.result c.repeated.ensures

pub returns-in_default : goal.returns-in_default
returns-in_default c =
    let a = c.args in
    byte_at_lem a.pattern.now a.at c.if-pattern-at.false (λ e. omega arith) (λ e. omega arith) (λ e. omega arith) (λ e. omega arith) (λ e. omega arith) c.repeated-in_default.result c.repeated-in_default.ensures
