-- `lstr_item::single::is_frontier` meets its contract. Assumes nothing.
use Rattle.std.proofs.Common.{sym, ap, ◌∙◌, not}
use Rattle.luck_pattern.specs.Items.{set_of}
use Rattle.lstr_class.specs.Inner.{class_in}
use Rattle.lstr_item.specs.Single.{in_set}
use Rattle.lstr_item.proofs.Singles.{frontier_before, frontier_at}
use Rattle.lstr_item.proofs.single.is_frontier.Goals as goal

pub returns-else-not-in_set : goal.returns-else-not-in_set
returns-else-not-in_set c =
    let a = c.args in
    let state = a.state.now in
    let inside = in_set (class_in state.classes.now) (set_of state.pattern.now a.opening a.closing) in
    ap not c.if-not-in_set.false
    ∙ frontier_before (class_in state.classes.now) state.subject.now (set_of state.pattern.now a.opening a.closing) a.place (sym (ap inside c.byte_before.ensures) ∙ sym c.in_set.ensures ∙ c.if-not-in_set.false)

pub returns-then-not-in_set : goal.returns-then-not-in_set
returns-then-not-in_set c =
    let a = c.args in
    let state = a.state.now in
    let inside = in_set (class_in state.classes.now) (set_of state.pattern.now a.opening a.closing) in
    c.in_set-then-not-in_set.ensures
    ∙ ap inside c.byte_at.ensures
    ∙ frontier_at (class_in state.classes.now) state.subject.now (set_of state.pattern.now a.opening a.closing) a.place (sym (ap inside c.byte_before.ensures) ∙ sym c.in_set.ensures ∙ c.if-not-in_set.true)
