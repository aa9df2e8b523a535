-- `luck_format::format::check_format` meets its contract. Assumes nothing.
use mathlib.Core.Path.{sym, ◌∙◌}
use Rattle.luck_format.proofs.Formats as formats
use Rattle.luck_format.proofs.format.check_format.Goals as goal

pub returns-then-conversion-eq113 : goal.returns-then-conversion-eq113
returns-then-conversion-eq113 c = formats.no_modifiers _ _ _ c.if-conversion-eq113.true

pub returns-then-byte_at-eq48 : goal.returns-then-byte_at-eq48
returns-then-byte_at-eq48 c =
    let a = c.args in
    let f = c.flags_run in
    formats.zero_stays a.conversion a.text.now a.at c.if-conversion-eq113.false f.result f.ensures (sym c.byte_at.ensures ∙ c.if-byte_at-eq48.true)

pub returns-then-not-takes_precision : goal.returns-then-not-takes_precision
returns-then-not-takes_precision c =
    let a = c.args in
    let f = c.flags_run in
    let w = c.after_two_digits-width in
    formats.no_precision a.conversion a.text.now a.at c.if-conversion-eq113.false f.result f.ensures (λ e. c.if-byte_at-eq48.false (c.byte_at.ensures ∙ e)) w.result w.ensures
    (sym c.takes_precision.ensures ∙ c.if-not-takes_precision.true)

pub returns-then-byte_at-eq46 : goal.returns-then-byte_at-eq46
returns-then-byte_at-eq46 c =
    let a = c.args in
    let f = c.flags_run in
    let w = c.after_two_digits-width in
    c.after_two_digits.ensures
    ∙ formats.dot_passed a.conversion a.text.now a.at c.if-conversion-eq113.false f.result f.ensures (λ e. c.if-byte_at-eq48.false (c.byte_at.ensures ∙ e)) w.result w.ensures
    (sym c.takes_precision.ensures ∙ c.if-not-takes_precision.false) (sym c.byte_at-2.ensures ∙ c.if-byte_at-eq46.true)

pub returns : goal.returns
returns c =
    let a = c.args in
    let f = c.flags_run in
    let w = c.after_two_digits-width in
    formats.no_dot a.conversion a.text.now a.at c.if-conversion-eq113.false f.result f.ensures (λ e. c.if-byte_at-eq48.false (c.byte_at.ensures ∙ e)) w.result w.ensures
    (λ e. c.if-byte_at-eq46.false (c.byte_at-2.ensures ∙ e))
