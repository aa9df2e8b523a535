-- `lstr_item::single::in_set` meets its contract. Assumes nothing.
use mathlib.Core.Path.{ap, ◌∙◌}
use mathlib.Core.Bool.{not}
use Rattle.lstr_class.specs.Inner.{class_in}
use Rattle.lstr_item.proofs.Sets.{set_complement, set_plain}
use Rattle.lstr_item.proofs.single.in_set.Goals as goal

pub returns-then-state-next-eq94 : goal.returns-then-state-next-eq94
returns-then-state-next-eq94 c =
    let a = c.args in
    ap not c.is_any_of.ensures ∙ set_complement a.state.now.pattern.now a.closing (class_in a.state.now.classes.now) a.byte a.opening c.if-state-next-eq94.true

pub returns : goal.returns
returns c =
    let a = c.args in
    c.is_any_of-2.ensures ∙ set_plain a.state.now.pattern.now a.closing (class_in a.state.now.classes.now) a.byte a.opening c.if-state-next-eq94.false
