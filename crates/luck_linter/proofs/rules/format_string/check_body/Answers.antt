-- `luck_linter::rules::format_string::check_body` meets its contract. Assumes nothing.
use Rattle.std.proofs.Common.{sym, ap, ◌∙◌}
use Rattle.luck_linter.specs.Checks.{walk_of}
use Rattle.luck_linter.specs.StringLiteral.{with_span}
use Rattle.luck_linter.proofs.StringLiterals as laws
use Rattle.luck_linter.proofs.rules.format_string.check_body.Goals as goal

pub returns-in-Nothing : goal.returns-in-Nothing
returns-in-Nothing c =
    let found = c.in-Nothing.ensures in
    c.walk_body.ensures ∙ laws.body_bare _ _ _ _ (sym found.0) (sym found.1)

pub returns-in-Plain : goal.returns-in-Plain
returns-in-Plain c =
    let a = c.args in
    let found = c.in-Plain.ensures in
    c.walk_body-in-Plain.ensures
    ∙ ap (λ x. with_span a.start a.body.now (walk_of x a.rules a.body.now)) c.without_ranges.ensures
    ∙ laws.body_escaped _ _ _ _ (sym found.0) (sym found.1)

pub returns-in-Numeric : goal.returns-in-Numeric
returns-in-Numeric c = c.skipped.ensures ∙ laws.body_skipped _ _ _ _ (sym c.in-Numeric.ensures.0)
