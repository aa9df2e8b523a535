-- `luck_pack::pack::scan_sized_option` meets its contract. Assumes nothing.
use mathlib.Core.Path.{sym, ap, ◌∙◌}
use Rattle.std.proofs.lemmas.Result.{err_from_is_err_and}
use Rattle.luck_text.specs.Bytes.{byte_at}
use Rattle.luck_answer.specs.Answer.{refusal}
use Rattle.luck_answer.specs.declared.format_pattern.PatternError.{PatternError}
use Rattle.luck_pack.specs.Inner.{keeps, faults, kept_read}
use Rattle.luck_pack.specs.declared.pack.PackOption.{PackOption}
use Rattle.luck_pack.proofs.Packs.{limited, fixed_string_lem, unknown_option}
use Rattle.luck_pack.proofs.pack.scan_sized_option.Goals as goal

pub returns-in_err-size-clause-reads : goal.returns-in_err-size-clause-reads
unfolding kept_read
returns-in_err-size-clause-reads c =
    let text = c.args.text.now in
    let at = c.args.at in
    let p = err_from_is_err_and c.from_residual.result c.from_residual.ensures.1 in
    let l = limited text at (sym c.is_limited.ensures ∙ c.if-is_limited.true) in
    rw (p.1, p.2) (ap kept_read (c.in_err-size.ensures.reads (byte_at text at) ∙ l))

pub returns-then-is_limited-clause-reads : goal.returns-then-is_limited-clause-reads
unfolding kept_read
returns-then-is_limited-clause-reads c =
    let text = c.args.text.now in
    let at = c.args.at in
    let l = limited text at (sym c.is_limited.ensures ∙ c.if-is_limited.true) in
    ap (λ (o : PackOption). keeps o c.in_ok-size.size.width) c.limited_option.ensures
    ∙ ap kept_read (c.in_ok-size.ensures.reads (byte_at text at) ∙ l)

pub returns-then-byte-eq99-clause-reads : goal.returns-then-byte-eq99-clause-reads
returns-then-byte-eq99-clause-reads c =
    c.scan_fixed_string.ensures.reads ∙ fixed_string_lem c.args.text.now c.args.at (sym c.is_limited.ensures ∙ c.if-is_limited.false) c.if-byte-eq99.true

pub returns-clause-reads : goal.returns-clause-reads
returns-clause-reads c =
    ap (λ (e : PatternError). faults (refusal e)) c.invalid_option.ensures
    ∙ unknown_option c.args.text.now c.args.at (sym c.is_limited.ensures ∙ c.if-is_limited.false) c.if-byte-eq99.false
