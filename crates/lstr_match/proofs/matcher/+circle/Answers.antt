-- The functions that call each other, `do_match`, `start_capture`, `end_capture`, `max_expand` and `min_expand`, meet their contracts: the laws of
-- lstr_item and of this crate, at what each place of the code knows.
use Prim.Native.Nat.{ℕ, ◌+◌}
use native.Mathlib.Omega.{arith}
use mathlib.Core.Path.{◌≡◌, refl, sym, ◌∙◌}
use Rattle.luck_pattern.specs.Items.{once, optional, star, plus, minus, items}
use Rattle.lstr_class.specs.Inner.{class_in}
use Rattle.lstr_item.specs.Match.{new_level, failed, expand, match}
use Rattle.lstr_item.specs.Inner.{single_of, captures_of}
use Rattle.lstr_item.proofs.Turns as turns
use Rattle.lstr_item.proofs.Captures.{sound_later, kept_later, is_open, is_position}
use Rattle.lstr_item.proofs.Singles.{fits_inside}
use Rattle.lstr_match.proofs.Attempts as attempts
use Rattle.lstr_match.proofs.Repeats as repeats
use Rattle.lstr_match.proofs.matcher.+circle.Goals as goal
use Rattle.lstr_match.proofs.matcher.+circle.Goals.{
  do_match-in-Star,
  do_match-in-Plus,
  min_expand-Joined-steps_failed,
  min_expand-in-Some,
  min_expand-in-None+in-Failed,
  min_expand-then-place-tried+else-state-steps+else-not-fits,
  min_expand-else-place-tried,
}

-- ---- do_match

pub do_match-returns-then-level-ge-MAXCCALLS : goal.do_match-returns-then-level-ge-MAXCCALLS
do_match-returns-then-level-ge-MAXCCALLS t c = attempts.ended _ _ _ _ _ c.too_deep.ensures (turns.too_deep _ _ _ c.if-level-ge-MAXCCALLS.true)

pub do_match-items-init : goal.do_match-items-init
do_match-items-init t c = (sym (turns.level_opens _ _ _ c.if-level-ge-MAXCCALLS.false), omega arith)

pub do_match-returns-then-state-steps : goal.do_match-returns-then-state-steps
do_match-returns-then-state-steps t c =
    attempts.ended _ _ _ _ _ c.spent.ensures (turns.steps_spent _ _ c.args.state.now.pattern.now _ _ _ _ _ _ c.if-state-steps.true ∙ c.items.invariant.0)

pub do_match-returns-in-End : goal.do_match-returns-in-End
do_match-returns-in-End t c =
    let inv = c.items.invariant.1 in
    let k = c.keep.ensures in
    attempts.kept_matched _ _ _ _ _ _ _ _ c.matched.ensures inv.3 (kept_later _ _ _ _ inv.3 (k.sound _ (sound_later _ _ _ inv.2 c.requires.2))) k.same
    (turns.at_end _ _ _ _ _ _ _ _ _ c.if-state-steps.false c.in-End.ensures ∙ c.items.invariant.0)

pub do_match-returns-then-place-state : goal.do_match-returns-then-place-state
do_match-returns-then-place-state t c =
    let inv = c.items.invariant.1 in
    let k = c.keep-then-place-state.ensures in
    attempts.kept_matched _ _ _ _ _ _ _ _ c.matched-then-place-state.ensures inv.3 (kept_later _ _ _ _ inv.3 (k.sound _ (sound_later _ _ _ inv.2 c.requires.2))) k.same
    (turns.at_anchor _ _ _ _ _ _ _ _ _ c.if-state-steps.false c.in-EndAnchor.ensures c.if-place-state.true ∙ c.items.invariant.0)

pub do_match-returns-in-EndAnchor : goal.do_match-returns-in-EndAnchor
do_match-returns-in-EndAnchor t c =
    attempts.ended _ _ _ _ _ c.failed.ensures
    (turns.not_at_anchor _ _ _ _ _ _ _ _ _ c.if-state-steps.false c.in-EndAnchor.ensures c.if-place-state.false ∙ c.items.invariant.0)

pub do_match-returns-in-Raises : goal.do_match-returns-in-Raises
do_match-returns-in-Raises t c =
    attempts.ended _ _ _ _ _ c.raised.ensures (turns.at_raises _ _ _ _ _ _ _ _ _ c.if-state-steps.false _ c.in-Raises.ensures ∙ c.items.invariant.0)

pub do_match-returns-in-StartCapture : goal.do_match-returns-in-StartCapture
do_match-returns-in-StartCapture t c =
    attempts.answered _ _ _ _ _ _ c.answer.ensures c.start_capture.ensures
    (turns.at_start _ _ _ _ _ _ _ _ _ c.if-state-steps.false _ _ (is_open _ _ refl) c.in-StartCapture.ensures ∙ c.items.invariant.0)

pub do_match-returns-in-PositionCapture : goal.do_match-returns-in-PositionCapture
do_match-returns-in-PositionCapture t c =
    attempts.answered _ _ _ _ _ _ c.answer-in-PositionCapture.ensures c.start_capture-in-PositionCapture.ensures
    (turns.at_position _ _ _ _ _ _ _ _ _ c.if-state-steps.false _ _ (is_position _ _ refl) c.in-PositionCapture.ensures ∙ c.items.invariant.0)

pub do_match-returns-in-EndCapture : goal.do_match-returns-in-EndCapture
do_match-returns-in-EndCapture t c =
    attempts.answered _ _ _ _ _ _ c.answer-in-EndCapture.ensures c.end_capture.ensures
    (turns.at_close _ _ _ _ _ _ _ _ _ c.if-state-steps.false _ c.in-EndCapture.ensures ∙ c.items.invariant.0)

pub do_match-returns-in-Err : goal.do_match-returns-in-Err
do_match-returns-in-Err t c =
    attempts.ended _ _ _ _ _ c.raised-in-Err.ensures
    (c.in-Err.ensures.0 _ _ _ ∙ turns.at_reference _ _ _ _ _ _ _ _ _ c.if-state-steps.false _ _ c.in-BackReference.ensures ∙ c.items.invariant.0)

pub do_match-returns-in-Ok-None : goal.do_match-returns-in-Ok-None
do_match-returns-in-Ok-None t c =
    attempts.ended _ _ _ _ _ c.failed-in-Ok-None.ensures
    ((rw c.in-Ok-None.field-0-is at c.in-Ok-None.ensures).0 _ _ _ ∙ turns.at_reference _ _ _ _ _ _ _ _ _ c.if-state-steps.false _ _ c.in-BackReference.ensures ∙ c.items.invariant.0)

pub do_match-items-preserved-in-Ok-Some : goal.do_match-items-preserved-in-Ok-Some
do_match-items-preserved-in-Ok-Some t c =
    let i = c.in-BackReference.ensures in
    let h = rw c.in-Ok-Some.field-0-is at c.in-Ok-Some.ensures in (
      h.0 _ _ _ ∙ turns.at_reference _ _ _ _ _ _ _ _ _ c.if-state-steps.false _ _ i ∙ c.items.invariant.0,
      omega (arith, h.1),
    )

pub do_match-items-preserved-in-Some : goal.do_match-items-preserved-in-Some
do_match-items-preserved-in-Some t c =
    let i = c.in-Balance.ensures in (
      turns.balanced _ _ _ _ _ _ _ _ _ c.if-state-steps.false _ _ _ _ i c.in-Some.ensures.0 ∙ c.items.invariant.0,
      omega (arith, c.in-Some.ensures.1),
    )

pub do_match-returns-in-None : goal.do_match-returns-in-None
do_match-returns-in-None t c =
    attempts.ended _ _ _ _ _ c.failed-in-None.ensures
    (turns.unbalanced _ _ _ _ _ _ _ _ _ c.if-state-steps.false _ _ _ c.in-Balance.ensures c.in-None.ensures.0 ∙ c.items.invariant.0)

pub do_match-returns-then-not-is_frontier : goal.do_match-returns-then-not-is_frontier
do_match-returns-then-not-is_frontier t c =
    attempts.ended _ _ _ _ _ c.failed-then-not-is_frontier.ensures
    (turns.no_frontier _ _ _ _ _ _ _ _ _ c.if-state-steps.false _ _ c.in-Frontier.ensures.0 (sym c.if-not-is_frontier.ensures) ∙ c.items.invariant.0)

pub do_match-items-preserved : goal.do_match-items-preserved
do_match-items-preserved t c =
    let i = c.in-Frontier.ensures.0 in (
      turns.at_frontier _ _ _ _ _ _ _ _ _ c.if-state-steps.false _ _ i (sym c.is_frontier.ensures ∙ c.if-not-is_frontier.false) ∙ c.items.invariant.0,
      omega arith,
    )

pub do_match-returns-then-has_to_fit : goal.do_match-returns-then-has_to_fit
do_match-returns-then-has_to_fit t c =
    attempts.ended _ _ _ _ _ c.failed-then-has_to_fit.ensures
    (turns.unfit_fails _ _ _ _ _ _ _ _ _ c.if-state-steps.false _ _ _ c.in-Single.ensures.on (sym c.if-has_to_fit.ensures) (sym c.if-not-fits.ensures) ∙ c.items.invariant.0)

pub do_match-items-preserved-then-not-fits : goal.do_match-items-preserved-then-not-fits
do_match-items-preserved-then-not-fits t c =
    let i = c.in-Single.ensures in
    let h = sym c.if-has_to_fit.ensures in
    let b = turns.behind_repeat _ _ _ _ _ i.on (turns.passed_repeats _ h) in (
      turns.unfit_passed _ _ _ _ _ _ _ _ _ c.if-state-steps.false _ _ _ i.on h (sym c.if-not-fits.ensures) ∙ c.items.invariant.0,
      omega arith,
    )

pub do_match-items-preserved-in-Once : goal.do_match-items-preserved-in-Once
do_match-items-preserved-in-Once t c =
    let i = rw c.in-Once.is at c.in-Single.ensures in
    let f = sym c.if-not-fits.ensures in (
      turns.fit_once _ _ _ _ _ _ _ _ _ c.if-state-steps.false _ _ once i.on refl f ∙ c.items.invariant.0,
      omega (arith, turns.behind_once _ _ _ _ once i.on refl, fits_inside _ _ _ _ f),
    )

pub do_match-do_match-r-requires : goal.do_match-do_match-r-requires
do_match-do_match-r-requires t c =
    let i = rw c.in-Optional.is at c.in-Single.ensures in
    let b = turns.behind_repeat _ _ _ _ optional i.on refl in
    let g = fits_inside _ _ _ _ (sym c.if-not-fits.ensures) in
    (omega arith, (b.1, omega arith, sound_later _ _ _ (omega arith) c.requires.2))

pub do_match-returns-in_default : goal.do_match-returns-in_default
do_match-returns-in_default t c =
    let i = rw c.in-Optional.is at c.in-Single.ensures in
    let r = c.do_match-r.ensures in
    attempts.answered _ _ _ _ _ _ c.answer-in_default.ensures (repeats.is_final _ _ _ r.0 c.in_default.not-Failed _, r.1)
    (repeats.optional_on _ _ _ _ _ _ _ _ _ ∙ turns.fit_more _ _ _ _ _ _ _ _ _ c.if-state-steps.false _ _ optional i.on refl (sym c.if-not-fits.ensures) ∙ c.items.invariant.0)

pub do_match-items-preserved-in-Failed : goal.do_match-items-preserved-in-Failed
do_match-items-preserved-in-Failed t c =
    let i = rw c.in-Optional.is at c.in-Single.ensures in (
      repeats.optional_fails _ _ _ _ _ _ _ _ _ _ (repeats.has_failed _ _ _ c.do_match-r.ensures.0 c.in-Failed.is)
          ∙ turns.fit_more _ _ _ _ _ _ _ _ _ c.if-state-steps.false _ _ optional i.on refl (sym c.if-not-fits.ensures) ∙ c.items.invariant.0,
      omega (arith, turns.behind_repeat _ _ _ _ optional i.on refl),
    )

pub do_match-max_expand-requires : goal.do_match-max_expand-requires
do_match-max_expand-requires t c =
    let inv = c.items.invariant.1 in
    elim c.match-repeat.branch [
      | do_match-in-Star w ↦
          let i = rw w.in-Star.is at c.in-Single.ensures in
          let b = turns.behind_repeat _ _ _ _ star i.on refl in
          (omega arith, (i.single, omega arith, fits_inside _ _ _ _ (sym c.if-not-fits.ensures), omega arith, omega arith, sound_later _ _ _ inv.2 c.requires.2))
      | do_match-in-Plus w ↦
          let i = rw w.in-Plus.is at c.in-Single.ensures in
          let b = turns.behind_repeat _ _ _ _ plus i.on refl in
          (omega arith, (i.single, omega arith, fits_inside _ _ _ _ (sym c.if-not-fits.ensures), omega arith, omega arith, sound_later _ _ _ inv.2 c.requires.2))
    ]

pub do_match-returns-in-Single : goal.do_match-returns-in-Single
do_match-returns-in-Single t c =
    elim c.match-repeat.branch [
      | do_match-in-Star w ↦
          let i = rw w.in-Star.is at c.in-Single.ensures in
          let r = rw w.shortest-is at c.max_expand.ensures in
          attempts.answered _ _ _ _ _ _ c.answer-in-Single.ensures r
          (repeats.star_on _ _ _ _ _ _ _ _ _ ∙ turns.fit_more _ _ _ _ _ _ _ _ _ c.if-state-steps.false _ _ star i.on refl (sym c.if-not-fits.ensures) ∙ c.items.invariant.0)
      | do_match-in-Plus w ↦
          let i = rw w.in-Plus.is at c.in-Single.ensures in
          let r = rw w.shortest-is at c.max_expand.ensures in
          attempts.answered _ _ _ _ _ _ c.answer-in-Single.ensures r
          (repeats.plus_on _ _ _ _ _ _ _ _ _ ∙ turns.fit_more _ _ _ _ _ _ _ _ _ c.if-state-steps.false _ _ plus i.on refl (sym c.if-not-fits.ensures) ∙ c.items.invariant.0)
    ]

pub do_match-min_expand-requires : goal.do_match-min_expand-requires
do_match-min_expand-requires t c =
    let i = rw c.in-Minus.is at c.in-Single.ensures in
    let b = turns.behind_repeat _ _ _ _ minus i.on refl in
    let inv = c.items.invariant.1 in
    (omega arith, (i.single, omega arith, fits_inside _ _ _ _ (sym c.if-not-fits.ensures), sound_later _ _ _ inv.2 c.requires.2))

pub do_match-returns-in-Minus : goal.do_match-returns-in-Minus
do_match-returns-in-Minus t c =
    let i = rw c.in-Minus.is at c.in-Single.ensures in
    attempts.answered _ _ _ _ _ _ c.answer-in-Minus.ensures c.min_expand.ensures
    (turns.fit_more _ _ _ _ _ _ _ _ _ c.if-state-steps.false _ _ minus i.on refl (sym c.if-not-fits.ensures) ∙ c.items.invariant.0)

-- ---- start_capture and end_capture

pub start_capture-returns-in-Err : goal.start_capture-returns-in-Err
start_capture-returns-in-Err t c =
    attempts.ended _ _ _ _ _ c.raised.ensures (c.in-Err.ensures.goes_on _ _ _)

pub end_capture-returns-in-Err : goal.end_capture-returns-in-Err
end_capture-returns-in-Err t c =
    attempts.ended _ _ _ _ _ c.raised.ensures (c.in-Err.ensures.goes_on _ _ _)

-- ---- max_expand

pub max_expand-returns-in-Err : goal.max_expand-returns-in-Err
max_expand-returns-in-Err t c =
    attempts.ended _ _ _ _ _ c.spent.ensures (repeats.none_reached _ _ _ _ _ _ c.in-Err.ensures.0)

pub max_expand-loop-tried-init : goal.max_expand-loop-tried-init
max_expand-loop-tried-init t c =
    let r = c.in-Ok.ensures in
    (repeats.all_down _ _ _ _ _ _ _ (omega arith) r.0, omega arith)

pub max_expand-returns-in_default : goal.max_expand-returns-in_default
max_expand-returns-in_default t c =
    let r = c.do_match-r.ensures in
    attempts.answered _ _ _ _ _ _ c.answer.ensures (repeats.is_final _ _ _ r.0 c.in_default.not-Failed _, r.1)
    (repeats.down _ _ _ _ _ _ _ (omega arith) (omega arith) ∙ c.loop-tried.invariant.0)

pub max_expand-steps_failed-requires : goal.max_expand-steps_failed-requires
max_expand-steps_failed-requires t c = repeats.sure_single _ _ _ _ _ c.first_test-first.ensures

pub max_expand-loop-tried-preserved-in-Some : goal.max_expand-loop-tried-preserved-in-Some
max_expand-loop-tried-preserved-in-Some t c =
    let failed = repeats.known_fails_ahead _ _ _ _ _ _ _ _ _ _ _ _ (repeats.none_open _ _ _ c.is_open.ensures) c.first_test-first.ensures c.in-Some.ensures in
    (repeats.further_down _ _ _ _ _ _ _ (omega arith) (omega arith) _ failed ∙ c.loop-tried.invariant.0, omega arith)

pub max_expand-loop-tried-preserved : goal.max_expand-loop-tried-preserved
max_expand-loop-tried-preserved t c =
    let failed = repeats.has_failed _ _ _ c.do_match-r.ensures.0 c.in-Failed.is in
    (repeats.further_down _ _ _ _ _ _ _ (omega arith) (omega arith) _ failed ∙ c.loop-tried.invariant.0, omega arith)

pub max_expand-returns : goal.max_expand-returns
max_expand-returns t c =
    attempts.ended _ _ _ _ _ c.failed.ensures (repeats.none_left _ _ _ _ _ _ (omega arith) ∙ c.loop-tried.invariant.0)

-- ---- min_expand

-- the rest has failed at the place, by the single ahead or by a call
min_expand_failed : (t : ℕ) (c : min_expand-Joined-steps_failed t)
    → failed c.match-steps_failed.steps ≡ new_level c.args.level c.loop-after.steps (λ m. match (class_in c.args.state.now.classes.now) c.args.state.now.subject.now c.args.state.now.budget (items c.args.state.now.pattern.now (c.args.suffix + 1)) c.loop-after.tried m (captures_of c.args.captures.now) c.loop-after.steps)
min_expand_failed t c =
    elim c.match-steps_failed.branch [
      | min_expand-in-Some w ↦
          rw w.steps-is (repeats.known_fails_ahead _ _ _ _ _ _ _ _ _ _ _ _ (repeats.none_open _ _ _ c.is_open.ensures) c.first_test-first.ensures w.in-Some.ensures)
      | min_expand-in-None+in-Failed w ↦ rw w.steps-is (repeats.has_failed _ _ _ w.do_match-r.ensures.0 w.in-Failed.is)
    ]

min_expand_left : (t : ℕ) (c : min_expand-Joined-steps_failed t)
    → repeats.behind (class_in c.args.state.now.classes.now) c.args.state.now.subject.now c.args.state.now.budget (single_of c.args.state.now.pattern.now c.args.at c.args.suffix) (match (class_in c.args.state.now.classes.now) c.args.state.now.subject.now c.args.state.now.budget (items c.args.state.now.pattern.now (c.args.suffix + 1))) c.args.level (captures_of c.args.captures.now) c.args.place c.loop-after.tried c.match-steps_failed.steps
    ≡ expand (class_in c.args.state.now.classes.now) c.args.state.now.subject.now c.args.state.now.budget (single_of c.args.state.now.pattern.now c.args.at c.args.suffix) minus (match (class_in c.args.state.now.classes.now) c.args.state.now.subject.now c.args.state.now.budget (items c.args.state.now.pattern.now (c.args.suffix + 1))) c.args.place c.args.level (captures_of c.args.captures.now) c.args.steps
min_expand_left t c = repeats.rest_failed _ _ _ _ (match (class_in c.args.state.now.classes.now) c.args.state.now.subject.now c.args.state.now.budget (items c.args.state.now.pattern.now (c.args.suffix + 1))) _ (captures_of c.args.captures.now) _ _ _ _ (min_expand_failed t c) _ c.loop-after.invariant.0

pub min_expand-steps_failed-requires : goal.min_expand-steps_failed-requires
min_expand-steps_failed-requires t c = repeats.sure_single _ _ _ _ _ c.first_test-first.ensures

pub min_expand-loop-after-init : goal.min_expand-loop-after-init
min_expand-loop-after-init t c =
    (repeats.all_up _ _ _ _ _ _ _ _ _, omega arith)

pub min_expand-returns-in_default : goal.min_expand-returns-in_default
min_expand-returns-in_default t c =
    let r = c.do_match-r.ensures in
    attempts.answered _ _ _ _ _ _ c.answer.ensures (repeats.is_final _ _ _ r.0 c.in_default.not-Failed _, r.1) c.loop-after.invariant.0

pub min_expand-returns-then-state-steps : goal.min_expand-returns-then-state-steps
min_expand-returns-then-state-steps t c =
    let left = min_expand_left t (goal.at.min_expand-returns-then-state-steps t c).Joined-steps_failed in
    attempts.ended _ _ _ _ _ c.spent.ensures (repeats.up_spent _ _ _ _ _ _ _ _ _ _ _ left c.if-place-tried.true c.if-state-steps.true)

pub min_expand-returns-then-not-fits : goal.min_expand-returns-then-not-fits
min_expand-returns-then-not-fits t c =
    let left = min_expand_left t (goal.at.min_expand-returns-then-not-fits t c).Joined-steps_failed in
    attempts.ended _ _ _ _ _ c.failed.ensures (repeats.up_fails _ _ _ _ _ _ _ _ _ _ _ left c.if-place-tried.true c.if-state-steps.false (sym c.if-not-fits.ensures))

pub min_expand-loop-after-preserved : goal.min_expand-loop-after-preserved
min_expand-loop-after-preserved t c =
    let left = min_expand_left t (goal.at.min_expand-loop-after-preserved t c).Joined-steps_failed in
    elim c.if-place-tried.branch [
      | min_expand-then-place-tried+else-state-steps+else-not-fits w ↦
          let f = sym w.if-not-fits.ensures in
          let g = fits_inside _ _ _ _ f in
          (rw w.steps-is (repeats.up_next _ _ _ _ _ _ _ _ _ _ _ left w.if-place-tried.true w.if-state-steps.false f g), omega arith)
      | min_expand-else-place-tried w ↦
          (rw w.steps-is (repeats.up_first _ _ _ _ _ _ _ _ _ _ _ left (omega arith) w.if-place-tried.false), omega arith)
    ]
