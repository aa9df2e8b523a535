-- The loop's invariant: what is left of the pattern gives the same outcome.
use Rattle.std.proofs.Common.{◌≡◌, ◌-◌, ◌≤◌, [], length}
use Rattle.luck_pattern.specs.Items.{items}
use Rattle.lstr_class.specs.Inner.{class_in}
use Rattle.lstr_item.specs.Match.{match}
use Rattle.lstr_item.proofs.Turns as turns
use Rattle.lstr_attempt.proofs.attempt.attempt.Given as goal

abbrev pub invariant-items : goal.invariant-items
invariant-items l =
    (turns.on (class_in l.state.classes.now) l.state.subject.now l.state.pattern.now l.state.budget l.at l.place 1 [] l.steps ≡ match (class_in l.state.classes.now) l.state.subject.now l.state.budget (items l.state.pattern.now l.fn.at) l.fn.place 1 [] l.fn.steps)
    × (l.at ≤ length l.state.pattern.now) × (l.place ≤ length l.state.subject.now)

abbrev pub decreases-items : goal.decreases-items
decreases-items l = length l.state.pattern.now - l.at
