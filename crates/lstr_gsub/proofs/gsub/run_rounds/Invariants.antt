-- `lstr_gsub::gsub::run_rounds` meets its contract. The invariant: the rounds from here are the whole answer.
use Prim.Native.Nat.{◌-◌}
use Rattle.luck_pattern.specs.Items.{items}
use Rattle.lstr_class.specs.Inner.{class_in}
use Rattle.lstr_gsub.proofs.Rounds as rounds
use Rattle.lstr_gsub.proofs.gsub.run_rounds.Given as goal

abbrev pub invariant-rounds : goal.invariant-rounds
invariant-rounds l =
    rounds.Going (class_in l.state.classes.now) l.state.subject.now l.state.budget l.is_strict l.replacement (items l.state.pattern.now 0) l.initial.output l.place l.last l.written l.replacements l.steps l.output

abbrev pub decreases-rounds : goal.decreases-rounds
decreases-rounds l = l.state.budget - l.steps
