-- `lstr_attempt::attempt::last_repeat` meets its contract.
use native.Mathlib.Omega.{arith}
use Rattle.lstr_attempt.proofs.Leads as leads
use Rattle.lstr_match.proofs.Attempts as attempts
use Rattle.lstr_match.proofs.Repeats as repeats
use Rattle.lstr_attempt.proofs.attempt.last_repeat.Goals as goal

pub returns-then-state-reached : goal.returns-then-state-reached
returns-then-state-reached c kept shortest h =
    let r = c.in-Ok.ensures in
    attempts.ended _ _ _ _ _ c.spent.ensures (leads.end_unpaid _ _ _ _ _ _ r.0 shortest (omega (arith, h, r.1)) _ c.if-state-reached.true)

pub returns-else-state-reached : goal.returns-else-state-reached
returns-else-state-reached c kept shortest h =
    let r = c.in-Ok.ensures in
    leads.bare_match _ _ _ _ _ _ c.matched.ensures r.1.1 (leads.end_paid _ _ _ _ _ _ r.0 shortest (omega (arith, h, r.1)) _ c.if-state-reached.false)

pub returns-in-Err : goal.returns-in-Err
returns-in-Err c kept shortest h = attempts.ended _ _ _ _ _ c.spent-in-Err.ensures (repeats.none_reached _ _ _ _ _ _ c.in-Err.ensures.0)
