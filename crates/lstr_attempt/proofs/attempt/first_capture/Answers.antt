-- `lstr_attempt::attempt::first_capture` meets its contract.
use Rattle.luck_pattern.specs.Items.{items}
use Rattle.lstr_class.specs.Inner.{class_in}
use Rattle.lstr_item.specs.Match.{match}
use Rattle.lstr_match.proofs.Attempts as attempts
use Rattle.lstr_attempt.proofs.Leads as leads
use Rattle.lstr_attempt.proofs.attempt.first_capture.Goals as goal

pub returns : goal.returns
returns c =
    let a = c.args in
    let s = a.state.now in
    attempts.answered _ _ _ _ _ _ c.answer.ensures c.do_match.ensures
    (leads.first_starts _ _ c.one.ensures.0 (match (class_in s.classes.now) s.subject.now s.budget (items s.pattern.now a.next)) a.place a.steps)
