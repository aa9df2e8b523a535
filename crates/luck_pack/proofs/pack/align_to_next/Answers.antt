-- `luck_pack::pack::align_to_next` meets its contract. Assumes nothing.
use mathlib.Core.Path.{ap, ◌∙◌}
use Rattle.std.proofs.lemmas.Result.{err_from_is_err_and}
use Rattle.luck_text.specs.Walk.Turn.{stop}
use Rattle.luck_answer.specs.Answer.{refusal}
use Rattle.luck_answer.specs.declared.format_pattern.PatternError.{PatternError}
use Rattle.luck_pack.specs.Pack.{pack_state, align_by}
use Rattle.luck_pack.proofs.Packs.{kept_next, by_next}
use Rattle.luck_pack.proofs.pack.align_to_next.Goals as goal

pub returns-in_err-next-clause-turns : goal.returns-in_err-next-clause-turns
unfolding kept_next
returns-in_err-next-clause-turns c =
    let p = err_from_is_err_and c.from_residual.result c.from_residual.ensures.1 in
    rw (p.1, p.2) (λ values. by_next c.args.text.now c.args.at (pack_state values c.args.alignment) c.in_err-next.ensures.reads)

pub returns-in-Some-clause-turns : goal.returns-in-Some-clause-turns
unfolding kept_next align_by
returns-in-Some-clause-turns c =
    λ values.
    let state = pack_state values c.args.alignment in
    c.aligned.ensures.turns values ∙ ap (align_by c.args.text.now c.args.at state c.in_ok-next.next.width) c.in-Some.ensures
    ∙ by_next c.args.text.now c.args.at state c.in_ok-next.ensures.reads

pub returns-in-None-clause-turns : goal.returns-in-None-clause-turns
unfolding kept_next align_by
returns-in-None-clause-turns c =
    λ values.
    let state = pack_state values c.args.alignment in
    ap (λ (e : PatternError). stop (refusal e)) c.invalid_option.ensures
    ∙ ap (align_by c.args.text.now c.args.at state c.in_ok-next.next.width) c.in-None.ensures
    ∙ by_next c.args.text.now c.args.at state c.in_ok-next.ensures.reads
