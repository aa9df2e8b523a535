-- `luck_line::line::read_columns` meets its contract. Assumes nothing.
use Rattle.std.proofs.Common.{Some, sym, ap, ◌∙◌}
use Rattle.luck_line.proofs.Heads as heads
use Rattle.luck_line.proofs.line.read_columns.Goals as goal

pub returns-then-units-eq32 : goal.returns-then-units-eq32
returns-then-units-eq32 c = let a = c.args in heads.blank a.tens a.units c.if-tens-eq32.true c.if-units-eq32.true

pub returns-then-has : goal.returns-then-has
returns-then-has c =
    let a = c.args in
    ap (λ x. Some (Some x)) c.digit.ensures
    ∙ heads.one_digit a.tens a.units c.if-tens-eq32.true c.if-units-eq32.false (sym c.has.ensures ∙ c.if-has.true)

pub returns-then-tens-eq32 : goal.returns-then-tens-eq32
returns-then-tens-eq32 c =
    let a = c.args in
    heads.no_digit a.tens a.units c.if-tens-eq32.true c.if-units-eq32.false (sym c.has.ensures ∙ c.if-has.false)

pub returns : goal.returns
returns c = let a = c.args in c.two_digits.ensures ∙ heads.two a.tens a.units c.if-tens-eq32.false
