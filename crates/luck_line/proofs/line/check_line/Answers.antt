-- `luck_line::line::check_line` meets its contract. Assumes nothing.
use Rattle.std.proofs.Common.{sym, ◌∙◌}
use Rattle.luck_line.proofs.Heads as heads
use Rattle.luck_line.proofs.line.check_line.Goals as goal
use Rattle.luck_line.proofs.line.check_line.Goals.{else-has-via-then-has+else-line-eq32, else-has-via-else-has}

pub returns-then-line-gt-LONGEST : goal.returns-then-line-gt-LONGEST
returns-then-line-gt-LONGEST c = c.from.ensures ∙ heads.too_long_lem _ c.if-line-gt-LONGEST.true

pub returns-then-line-lt-HEAD : goal.returns-then-line-lt-HEAD
returns-then-line-lt-HEAD c =
    c.from-then-line-lt-HEAD.ensures ∙ heads.too_short _ c.if-line-gt-LONGEST.false c.if-line-lt-HEAD.true

pub returns-then-line-eq32 : goal.returns-then-line-eq32
returns-then-line-eq32 c =
    let short = c.if-line-gt-LONGEST.false in
    let digit = sym c.has.ensures ∙ c.if-has.true in
    heads.whole_head _ short digit c.if-line-eq32.true _ _ _
    c.check_with-named.ensures c.digit.ensures c.check_body.ensures

pub returns : goal.returns
returns c =
    let short = c.if-line-gt-LONGEST.false in
    let digit = sym c.has.ensures in
    c.from-2.ensures
    ∙ elim c.else-has.branch [
      | else-has-via-then-has+else-line-eq32 w ↦ heads.not_a_space _ short (digit ∙ w.if-has.true) w.if-line-eq32.false
      | else-has-via-else-has w ↦ heads.not_a_digit _ short (digit ∙ w.if-has.false)
    ]
