-- `lstr_attempt::lead::lead_of` meets its contract.
use native.Mathlib.Omega.{arith}
use mathlib.Core.Path.{sym}
use mathlib.Core.Bool.{false}
use Rattle.luck_pattern.specs.Items.{start_capture, position_capture}
use Rattle.lstr_item.proofs.FirstTests.{opens_start, opens_position, sure_two, sure_first}
use Rattle.lstr_attempt.specs.Inner.{FittedIn}
use Rattle.lstr_attempt.specs.declared.lead.Fitted.TheVariants as fitted
use Rattle.lstr_attempt.proofs.Leads as leads
use Rattle.lstr_attempt.proofs.lead.lead_of.Goals as goal
use Rattle.lstr_attempt.proofs.lead.lead_of.Goals.{Joined-is_once, then-is_once, else-is_once+then-is_greedy+then-pattern-suffix, else-is_once+else-is_greedy}

fitted_by : (c : Joined-is_once) → FittedIn c.args.pattern.now (record { at = 0; steps = 1; suffix = c.in-Single.suffix }) c.if-is_once.result
fitted_by c =
    let it = c.in-Single.ensures in
    elim c.if-is_once.branch [
      | then-is_once w ↦ rw w.result-is (leads.first_passed _ _ _ _ it.on (sym w.if-is_once.ensures))
      | else-is_once+then-is_greedy+then-pattern-suffix w ↦ rw w.result-is (leads.only_greedy _ _ _ _ it.on (sym w.if-is_greedy.ensures) w.if-pattern-suffix.true)
      | else-is_once+else-is_greedy w ↦ rw w.result-is tt
    ]

pub returns-then-has_to_fit : goal.returns-then-has_to_fit
returns-then-has_to_fit c =
    let it = c.in-Single.ensures in
    record {
      single = it.single;
      steps = omega arith;
      fitted = fitted_by (goal.at.returns-then-has_to_fit c).Joined-is_once;
      unfit = sure_first _ _ _ (sym c.if-has_to_fit.ensures) it;
    }

pub returns-else-has_to_fit : goal.returns-else-has_to_fit
returns-else-has_to_fit c =
    let it = c.in-Single.ensures in
    record {
      single = it.single;
      steps = omega arith;
      fitted = fitted_by (goal.at.returns-else-has_to_fit c).Joined-is_once;
      unfit = leads.first_skipped _ _ _ _ it.on (sym c.if-has_to_fit.ensures);
    }

pub returns-in-StartCapture : goal.returns-in-StartCapture
returns-in-StartCapture c =
    let t = c.in-StartCapture.ensures in
    leads.opened_leads _ _ fitted.IsCaptured (λ a. sure_two 0 false _ 0 0 a start_capture _ (opens_start 0 false (omega arith)) (omega arith) t) (λ a e. rw e t) _ c.opening.ensures

pub returns-in-PositionCapture : goal.returns-in-PositionCapture
returns-in-PositionCapture c =
    let t = c.in-PositionCapture.ensures in
    leads.opened_leads _ _ fitted.StartsOver (λ a. sure_two 0 false _ 0 0 a position_capture _ (opens_position 0 false (omega arith)) (omega arith) t) (λ a e. tt) _ c.opening-in-PositionCapture.ensures
