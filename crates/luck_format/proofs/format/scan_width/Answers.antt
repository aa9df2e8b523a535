-- `luck_format::format::scan_width` meets its contract. Assumes nothing.
use mathlib.Core.Path.{sym, ◌∙◌}
use Rattle.std.proofs.lemmas.Result.{err_from_is_err_and}
use Rattle.luck_format.proofs.Formats as formats
use Rattle.luck_format.proofs.format.scan_width.Goals as goal

pub returns-in_err-end-clause-reads : goal.returns-in_err-end-clause-reads
returns-in_err-end-clause-reads c =
    let p = err_from_is_err_and c.from_residual.result c.from_residual.ensures.1 in
    rw (p.1, p.2) (formats.bad_width c.args.text.now c.args.at c.in_err-end.ensures.reads)

pub returns-then-byte_at-eq46-clause-reads : goal.returns-then-byte_at-eq46-clause-reads
returns-then-byte_at-eq46-clause-reads c =
    let text = c.args.text.now in
    c.two_digits-then-byte_at-eq46.ensures.reads ∙ formats.precision text c.in_ok-end.end
    ∙ formats.width_and_dot text c.args.at c.in_ok-end.ensures.reads (sym c.byte_at.ensures ∙ c.if-byte_at-eq46.true)

pub returns-clause-reads : goal.returns-clause-reads
returns-clause-reads c = formats.width_alone c.args.text.now c.args.at c.in_ok-end.ensures.reads (λ e. c.if-byte_at-eq46.false (c.byte_at.ensures ∙ e))
