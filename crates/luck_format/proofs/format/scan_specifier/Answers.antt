-- `luck_format::format::scan_specifier` meets its contract. Assumes nothing.
use mathlib.Core.Path.{sym, ◌∙◌}
use Rattle.std.proofs.lemmas.Result.{err_from_is_err_and}
use Rattle.luck_format.proofs.Formats as formats
use Rattle.luck_format.proofs.format.scan_specifier.Goals as goal

pub returns-then-text-next-clause-turns : goal.returns-then-text-next-clause-turns
returns-then-text-next-clause-turns c = let a = c.args in λ count. formats.lone_percent a.rules a.text.now a.at count c.if-text-next.true

pub returns-then-is_star-clause-turns : goal.returns-then-is_star-clause-turns
returns-then-is_star-clause-turns c =
    let a = c.args in
    λ count. formats.star a.rules a.text.now a.at count c.if-text-next.false c.requires.1 (sym c.is_star.ensures ∙ c.if-is_star.true)

pub returns-in_err-end-clause-turns : goal.returns-in_err-end-clause-turns
returns-in_err-end-clause-turns c =
    let a = c.args in
    let p = err_from_is_err_and c.from_residual.result c.from_residual.ensures.1 in
    rw (p.1, p.2) (λ count. formats.faulty_modifiers a.rules a.text.now a.at count c.if-text-next.false c.requires.1 (sym c.is_star.ensures ∙ c.if-is_star.false) _ c.in_err-end.ensures.reads)

pub returns-clause-turns : goal.returns-clause-turns
returns-clause-turns c =
    let a = c.args in
    λ count. c.scan_format_conversion.ensures.turns count
    ∙ formats.after_modifiers a.rules a.text.now a.at count c.if-text-next.false c.requires.1 (sym c.is_star.ensures ∙ c.if-is_star.false) _ c.in_ok-end.ensures.reads
