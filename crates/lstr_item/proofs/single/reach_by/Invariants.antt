-- `lstr_item::single::reach_by` meets its contract. The loop's invariant: the reach from here is the whole answer. Assumes nothing.
use Rattle.std.proofs.Common.{◌≡◌, ℕ, Bool, ◌<◌, ◌-◌, length}
use Rattle.luck_pattern.specs.Items.{Single}
use Rattle.lstr_class.specs.Inner.{class_in}
use Rattle.lstr_item.specs.Single.{fits}
use Rattle.lstr_item.specs.Match.{reach}
use Rattle.lstr_item.proofs.single.reach_by.Given as goal

abbrev pub invariant-loop-tested : goal.invariant-loop-tested
invariant-loop-tested g l =
    (x : Single)
    → ((byte : ℕ) (r : Bool) → byte < 256 → goal.F-post g l.test byte r → r ≡ fits (class_in l.state.classes.now) x byte)
    → reach (class_in l.state.classes.now) l.state.subject.now l.state.budget x (length l.state.subject.now - l.place) l.place l.steps-2
    ≡ reach (class_in l.state.classes.now) l.state.subject.now l.state.budget x (length l.state.subject.now - l.tested) l.tested l.steps
