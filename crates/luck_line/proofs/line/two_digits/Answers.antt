-- `luck_line::line::two_digits` meets its contract. Assumes nothing.
use Rattle.std.proofs.Common.{◌≡◌, Some, sym, ap, ◌∙◌, ◌+◌, ◌*◌, ◌-◌, arith}
use Rattle.luck_line.proofs.Heads as heads
use Rattle.luck_line.proofs.line.two_digits.Goals as goal
use Rattle.luck_line.proofs.line.two_digits.Goals.{else-has-via-then-has+else-has-2, else-has-via-else-has}

pub returns-then-count-lt10 : goal.returns-then-count-lt10
returns-then-count-lt10 c =
    let a = c.args in
    heads.below_ten a.tens a.units (sym c.has.ensures ∙ c.if-has.true) (sym c.has-then-has.ensures ∙ c.if-has-2.true)
    (omega (arith, c.if-count-lt10.true, c.digit-then-has-2.ensures, c.digit.ensures))

pub returns-then-count-gt32 : goal.returns-then-count-gt32
returns-then-count-gt32 c =
    let a = c.args in
    heads.above_32 a.tens a.units (sym c.has.ensures ∙ c.if-has.true) (sym c.has-then-has.ensures ∙ c.if-has-2.true)
    (omega (arith, c.if-count-lt10.false, c.digit-then-has-2.ensures, c.digit.ensures))
    (omega (arith, c.if-count-gt32.true, c.digit-then-has-2.ensures, c.digit.ensures))

pub returns-then-has-2 : goal.returns-then-has-2
returns-then-has-2 c =
    let a = c.args in
    let n : c.digit.result * 10 + c.digit-then-has-2.result ≡ (a.tens - 48) * 10 + (a.units - 48) =
    omega (arith, c.digit-then-has-2.ensures, c.digit.ensures) in
    ap (λ x. Some (Some x)) n
    ∙ heads.counted a.tens a.units (sym c.has.ensures ∙ c.if-has.true) (sym c.has-then-has.ensures ∙ c.if-has-2.true)
    (omega (arith, c.if-count-lt10.false, c.digit-then-has-2.ensures, c.digit.ensures))
    (omega (arith, c.if-count-gt32.false, c.digit-then-has-2.ensures, c.digit.ensures))

pub returns : goal.returns
returns c =
    let a = c.args in
    elim c.else-has.branch [
      | else-has-via-then-has+else-has-2 w ↦ heads.units_no_digit a.tens a.units (sym c.has.ensures ∙ w.if-has.true) (sym w.has-then-has.ensures ∙ w.if-has-2.false)
      | else-has-via-else-has w ↦ heads.tens_no_digit a.tens a.units (sym c.has.ensures ∙ w.if-has.false)
    ]
