-- `lstr_attempt::attempt::attempt_from` meets its contract.
use Rattle.lstr_item.proofs.Items.{items_end}
use Rattle.lstr_item.proofs.Turns as turns
use Rattle.lstr_attempt.proofs.Leads as leads
use Rattle.lstr_attempt.proofs.attempt.attempt_from.Goals as goal

pub returns-then-steps-state : goal.returns-then-steps-state
returns-then-steps-state c =
    leads.bare_match _ _ _ _ _ _ c.matched.ensures c.requires.1
    (turns.at_end _ _ _ _ _ _ _ _ _ c.if-steps-state.true (items_end _ _ c.if-state-at.true))
