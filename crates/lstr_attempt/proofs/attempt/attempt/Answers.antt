-- `lstr_attempt::attempt::attempt` meets its contract.
use native.Mathlib.Omega.{arith}
use mathlib.Core.Path.{refl, sym, ◌∙◌}
use Rattle.lstr_item.proofs.Captures.{is_open, is_position}
use Rattle.lstr_attempt.proofs.Leads as leads
use Rattle.lstr_item.proofs.Singles.{fits_inside}
use Rattle.lstr_item.proofs.Turns as turns
use Rattle.lstr_match.proofs.Attempts as attempts
use Rattle.lstr_attempt.proofs.attempt.attempt.Goals as goal

pub returns-then-state-steps : goal.returns-then-state-steps
returns-then-state-steps c = attempts.ended _ _ _ _ _ c.spent.ensures (turns.steps_spent _ _ c.args.state.now.pattern.now _ _ _ _ _ _ c.if-state-steps.true ∙ c.items.invariant.0)

pub returns-in-End : goal.returns-in-End
returns-in-End c =
    leads.bare_match _ _ _ _ _ _ c.matched.ensures c.items.invariant.2 (turns.at_end _ _ _ _ _ _ _ _ _ c.if-state-steps.false c.in-End.ensures ∙ c.items.invariant.0)

pub returns-then-place-state : goal.returns-then-place-state
returns-then-place-state c =
    leads.bare_match _ _ _ _ _ _ c.matched-then-place-state.ensures c.items.invariant.2
    (turns.at_anchor _ _ _ _ _ _ _ _ _ c.if-state-steps.false c.in-EndAnchor.ensures c.if-place-state.true ∙ c.items.invariant.0)

pub returns-in-EndAnchor : goal.returns-in-EndAnchor
returns-in-EndAnchor c =
    attempts.ended _ _ _ _ _ c.failed.ensures (turns.not_at_anchor _ _ _ _ _ _ _ _ _ c.if-state-steps.false c.in-EndAnchor.ensures c.if-place-state.false ∙ c.items.invariant.0)

pub returns-then-has_to_fit : goal.returns-then-has_to_fit
returns-then-has_to_fit c =
    attempts.ended _ _ _ _ _ c.failed-then-has_to_fit.ensures
    (turns.unfit_fails _ _ _ _ _ _ _ _ _ c.if-state-steps.false _ _ _ c.in-Single.ensures.on (sym c.if-has_to_fit.ensures) (sym c.if-not-fits.ensures) ∙ c.items.invariant.0)

pub items-preserved-then-not-fits : goal.items-preserved-then-not-fits
items-preserved-then-not-fits c =
    let i = c.in-Single.ensures in
    let h = sym c.if-has_to_fit.ensures in
    let b = turns.behind_repeat _ _ _ _ _ i.on (turns.passed_repeats _ h) in
    (turns.unfit_passed _ _ _ _ _ _ _ _ _ c.if-state-steps.false _ _ _ i.on h (sym c.if-not-fits.ensures) ∙ c.items.invariant.0, b.1, c.items.invariant.2)

pub items-preserved : goal.items-preserved
items-preserved c =
    let i = c.in-Single.ensures in
    let o = sym c.if-is_once.ensures in
    let f = sym c.if-not-fits.ensures in
    (turns.fit_once _ _ _ _ _ _ _ _ _ c.if-state-steps.false _ _ _ i.on o f ∙ c.items.invariant.0, (turns.behind_once _ _ _ _ _ i.on o).1, omega (arith, fits_inside _ _ _ _ f))

pub last_repeat-requires : goal.last_repeat-requires
last_repeat-requires c = (c.in-Single.ensures.single, fits_inside _ _ _ _ (sym c.if-not-fits.ensures))

pub returns-in-Single : goal.returns-in-Single
returns-in-Single c =
    let w = leads.last_greedy _ _ _ _ _ _ _ _ c.if-state-steps.false _ _ (sym c.if-not-fits.ensures) _ (sym c.if-not-is_greedy.ensures) c.if-suffix-state.false c.in-Single.ensures.on in
    attempts.answered _ _ _ _ _ _ c.answer.ensures (c.last_repeat.ensures _ w.0 w.1) (w.2 ∙ c.items.invariant.0)

pub returns-in-StartCapture : goal.returns-in-StartCapture
returns-in-StartCapture c =
    attempts.answered _ _ _ _ _ _ c.answer-in-StartCapture.ensures c.first_capture.ensures
    (turns.at_start _ _ _ _ _ _ _ _ _ c.if-state-steps.false _ _ (is_open _ _ refl) c.in-StartCapture.ensures ∙ c.items.invariant.0)

pub returns-in-PositionCapture : goal.returns-in-PositionCapture
returns-in-PositionCapture c =
    attempts.answered _ _ _ _ _ _ c.answer-in-PositionCapture.ensures c.first_capture-in-PositionCapture.ensures
    (turns.at_position _ _ _ _ _ _ _ _ _ c.if-state-steps.false _ _ (is_position _ _ refl) c.in-PositionCapture.ensures ∙ c.items.invariant.0)
