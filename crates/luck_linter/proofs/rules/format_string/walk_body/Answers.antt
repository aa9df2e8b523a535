-- `luck_linter::rules::format_string::walk_body` meets its contract. Assumes nothing.
use Rattle.std.proofs.Common.{sym, ap, refl, ◌∙◌}
use Rattle.luck_answer.specs.Answer.{Answer, accepted, check_answer}
use Rattle.luck_linter.specs.StringLiteral.{unspanned, with_span}
use Rattle.luck_linter.proofs.StringLiterals as laws
use Rattle.luck_linter.proofs.rules.format_string.walk_body.Goals as goal

pub returns-in-Ok : goal.returns-in-Ok
returns-in-Ok c =
    let a = c.args in
    c.unspanned.ensures ∙ ap unspanned c.accepted.ensures ∙ laws.span_accepted a.start a.body.now (accepted c.in-Ok.count) refl
    ∙ ap (with_span a.start a.body.now) c.in-Ok.ensures

pub returns-in-Err : goal.returns-in-Err
returns-in-Err c =
    let a = c.args in
    let fault = c.from-answer.ensures in
    c.spanned.ensures
    ∙ laws.span_refused a.start a.body.now (check_answer c.from-answer.result)
    (λ z. laws.refusal_number c.in-Err.fault (ap (λ (a : Answer). a.number) (sym fault) ∙ z)) _ c.span_at.ensures
    ∙ ap (with_span a.start a.body.now) (fault ∙ c.in-Err.ensures)
