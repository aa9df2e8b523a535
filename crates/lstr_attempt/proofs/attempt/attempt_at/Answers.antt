-- `lstr_attempt::attempt::attempt_at` meets its contract.
use native.Mathlib.Omega.{arith}
use mathlib.Core.Path.{sym}
use Rattle.lstr_match.proofs.Attempts as attempts
use Rattle.lstr_attempt.proofs.Leads as leads
use Rattle.lstr_attempt.proofs.attempt.attempt_at.Goals as goal

pub returns-in-Fails : goal.returns-in-Fails
returns-in-Fails c =
    let lead = rw c.in-Some.is at c.requires.0 in
    let sure = rw c.in-Fails.is at lead.unfit in
    attempts.ended _ _ _ _ _ c.failed.ensures (leads.fails_first _ _ _ _ _ _ _ sure (omega arith) (sym c.if-fits.ensures))
