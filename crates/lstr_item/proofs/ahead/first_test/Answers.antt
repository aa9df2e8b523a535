-- `lstr_item::ahead::first_test` meets its contract. Assumes nothing.
use Rattle.std.proofs.Common.{arith}
use Rattle.lstr_item.proofs.Reading.{end_at}
use Rattle.lstr_item.proofs.FirstTests.{first_one, first_two}
use Rattle.lstr_item.proofs.ahead.first_test.Goals as goal

pub returns-then-pattern-next-eq41 : goal.returns-then-pattern-next-eq41
returns-then-pattern-next-eq41 c =
    let a = c.args in
    first_two _ _ _ _ (omega arith) c.if-is_open.true (end_at a.pattern.now a.next c.if-next-pattern.true c.if-pattern-next-eq41.true) _ c.single_at.ensures

pub returns : goal.returns
returns c = first_one _ _ _ _ (omega arith) _ c.single_at-2.ensures
