-- `luck_pack::pack::option_turn` meets its contract. Assumes nothing.
use mathlib.Core.Path.{ap, ◌∙◌}
use Rattle.luck_text.specs.Bytes.{when◌then◌else◌}
use Rattle.luck_text.specs.Walk.Turn.{stop}
use Rattle.luck_answer.specs.Answer.{refusal}
use Rattle.luck_answer.specs.declared.format_pattern.PatternError.{PatternError}
use Rattle.luck_pack.specs.Pack.{variable}
use Rattle.luck_pack.specs.Inner.{kept_turn}
use Rattle.luck_pack.proofs.pack.option_turn.Goals as goal

pub returns-in-Counted-clause-turns : goal.returns-in-Counted-clause-turns
unfolding kept_turn variable when◌then◌else◌
returns-in-Counted-clause-turns c =
    λ values. ap (λ (e : PatternError). stop (refusal e)) c.variable_length.ensures ∙ rw (c.in-Counted.is, c.if-is_packsize.true, kept_turn)

pub returns-in-ZeroTerminated-clause-turns : goal.returns-in-ZeroTerminated-clause-turns
unfolding kept_turn variable when◌then◌else◌
returns-in-ZeroTerminated-clause-turns c =
    λ values. ap (λ (e : PatternError). stop (refusal e)) c.variable_length-in-ZeroTerminated.ensures ∙ rw (c.in-ZeroTerminated.is, c.if-is_packsize-2.true, kept_turn)

pub returns-in-ZeroTerminated-2-clause-turns : goal.returns-in-ZeroTerminated-2-clause-turns
unfolding kept_turn variable when◌then◌else◌
returns-in-ZeroTerminated-2-clause-turns c = λ values. rw (c.in-ZeroTerminated.is, c.if-is_packsize-2.false, kept_turn)

pub returns-in-Counted-2-clause-turns : goal.returns-in-Counted-2-clause-turns
unfolding kept_turn variable when◌then◌else◌
returns-in-Counted-2-clause-turns c =
    λ values. c.aligned-in-Counted-2.ensures.turns values ∙ rw (c.in-Counted-2.is, c.if-is_packsize.false, kept_turn)
