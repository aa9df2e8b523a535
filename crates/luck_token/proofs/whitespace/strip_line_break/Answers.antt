-- `luck_token::whitespace::strip_line_break` meets its contract.
use mathlib.Core.Path.{ap, ◌∙◌}
use native.Mathlib.Omega.{arith}
use Rattle.luck_token.specs.Whitespace.{strip_line_break}
use Rattle.luck_token.proofs.Breaks as breaks
use Rattle.luck_token.proofs.Literals.{stripped}
use Rattle.luck_token.proofs.whitespace.strip_line_break.Goals as goal

pub slice_bounds-result-count : goal.slice_bounds-result-count
slice_bounds-result-count c = omega (arith, breaks.width_inside _ _ _ _ c.line_break-width.ensures)

pub slice_bounds-result-start : goal.slice_bounds-result-start
slice_bounds-result-start c = omega (arith, breaks.width_inside _ _ _ _ c.line_break-width.ensures)

pub returns : goal.returns
returns c = stripped _ c.args.text.now c.line_break-width.result c.line_break-width.ensures ∙ ap (λ r. strip_line_break r.lfcr_line_break c.args.text.now) c.rules_of-rules.ensures
