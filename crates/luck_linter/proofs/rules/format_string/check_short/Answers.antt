-- `luck_linter::rules::format_string::check_short` meets its contract. Assumes nothing.
use Rattle.std.proofs.Common.{◌∙◌, arith}
use Rattle.luck_linter.proofs.StringLiterals as laws
use Rattle.luck_linter.proofs.rules.format_string.check_short.Goals as goal

pub slice_bounds-check_body-count : goal.slice_bounds-check_body-count
slice_bounds-check_body-count c = omega (arith, laws.places_in _ _ _ c.in-Some.ensures)

pub slice_bounds-check_body-start : goal.slice_bounds-check_body-start
slice_bounds-check_body-start c = omega (arith, laws.places_in _ _ _ c.in-Some.ensures)

pub slice_bounds-check_body-end : goal.slice_bounds-check_body-end
slice_bounds-check_body-end c = omega (arith, laws.places_in _ _ _ c.in-Some.ensures)

pub returns-in-Some : goal.returns-in-Some
returns-in-Some c = c.check_body.ensures ∙ laws.short _ _ _ _ _ _ c.in-Some.ensures

pub returns-in-None : goal.returns-in-None
returns-in-None c = c.skipped.ensures ∙ laws.no_short _ _ _ _ c.in-None.ensures
