-- `lstr_attempt::attempt::attempt_fitting` meets its contract.
use native.Mathlib.Omega.{arith}
use mathlib.Core.Path.{refl}
use Rattle.lstr_item.proofs.Captures.{is_open}
use Rattle.lstr_item.proofs.Singles.{fits_inside}
use Rattle.lstr_item.proofs.Turns as turns
use Rattle.lstr_match.proofs.Attempts as attempts
use Rattle.lstr_attempt.proofs.attempt.attempt_fitting.Goals as goal

pub overflow_add-place : goal.overflow_add-place
overflow_add-place c = omega (arith, fits_inside _ _ _ _ c.requires.2)

pub attempt_from-requires : goal.attempt_from-requires
attempt_from-requires c =
    let on = rw c.in-GoesOn.is at c.requires.0.fitted in
    (on.inside, omega (arith, fits_inside _ _ _ _ c.requires.2))

pub last_repeat-requires : goal.last_repeat-requires
last_repeat-requires c = (c.requires.0.single, fits_inside _ _ _ _ c.requires.2)

pub returns-in-IsLast : goal.returns-in-IsLast
returns-in-IsLast c =
    let q = c.requires in
    let w = (rw c.in-IsLast.is at q.0.fitted) _ _ _ _ _ q.1 q.2 in
    attempts.answered _ _ _ _ _ _ c.answer-in-IsLast.ensures (c.last_repeat.ensures _ w.0 w.1) w.2

pub first_capture-requires : goal.first_capture-requires
first_capture-requires c =
    let t = rw c.in-IsCaptured.is at c.requires.0.fitted in
    (t.inside, omega (arith, fits_inside _ _ _ _ c.requires.2), omega arith)

pub returns-in-IsCaptured : goal.returns-in-IsCaptured
returns-in-IsCaptured c =
    let q = c.requires in
    let t = rw c.in-IsCaptured.is at q.0.fitted in
    attempts.answered _ _ _ _ _ _ c.answer-in-IsCaptured.ensures c.first_capture.ensures (turns.at_start _ _ _ _ _ _ _ _ _ q.1 _ _ (is_open _ _ refl) t)

pub attempt-requires : goal.attempt-requires
attempt-requires c = (omega arith, omega (arith, fits_inside _ _ _ _ c.requires.2))
