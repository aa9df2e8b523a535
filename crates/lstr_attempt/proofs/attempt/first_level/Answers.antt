-- `lstr_attempt::attempt::first_level` meets its contract.
use Rattle.luck_pattern.specs.Items.{items}
use Rattle.lstr_class.specs.Inner.{class_in}
use Rattle.lstr_match.proofs.Attempts as attempts
use Rattle.lstr_attempt.proofs.Leads as leads
use Rattle.lstr_attempt.proofs.attempt.first_level.Goals as goal

pub returns : goal.returns
returns c =
    let a = c.args in
    let s = a.state.now in
    attempts.answered _ _ _ _ _ _ c.answer.ensures c.do_match.ensures
    (leads.first_level (class_in s.classes.now) s.subject.now s.budget (items s.pattern.now a.at) a.place a.steps _ c.new.ensures.0)
