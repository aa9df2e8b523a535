-- `lstr_item::single::is_any_of` meets its contract. The loop's invariant: the elements from here on give the whole answer.
-- Assumes nothing.
use Prim.Native.Nat.{◌-◌}
use mathlib.Core.Path.{◌≡◌}
use Rattle.luck_pattern.specs.Elements.{elements_of}
use Rattle.lstr_item.specs.Single.{is_any_of}
use Rattle.lstr_class.specs.Inner.{class_in}
use Rattle.lstr_item.proofs.single.is_any_of.Given as goal

abbrev pub invariant-loop-at : goal.invariant-loop-at
invariant-loop-at l =
    is_any_of (class_in l.state.classes.now) (elements_of l.pattern l.closing l.from) l.byte ≡ is_any_of (class_in l.state.classes.now) (elements_of l.pattern l.closing l.at) l.byte

abbrev pub decreases-loop-at : goal.decreases-loop-at
decreases-loop-at l = l.closing - l.at
