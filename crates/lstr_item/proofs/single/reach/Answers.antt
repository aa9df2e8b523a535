-- `lstr_item::single::reach` meets its contract. Assumes nothing.
use Rattle.std.proofs.Common.{◌≡◌, ◌+◌, ◌-◌, ◌∙◌, true, not, arith, rules}
use lib.Dec.{eqb}
use Rattle.luck_text.specs.Bytes.{byte_at}
use Rattle.lstr_class.specs.Inner.{class_in}
use Rattle.lstr_item.specs.Single.{is_any_of}
use Rattle.luck_pattern.specs.Elements.{elements_of}
use Rattle.lstr_item.proofs.Sets.{set_complement, set_plain}
use Rattle.lstr_item.proofs.Singles.{any_takes, class_takes, set_takes, byte_takes}
use Rattle.lstr_item.proofs.single.reach.Goals as goal

pub returns-in-46 : goal.returns-in-46
returns-in-46 c =
    let a = c.args in
    let state = a.state.now in
    let h = c.reach_by.ensures in
    (h.reaches _ (λ byte r l post. let e : r ≡ true = search rules in e ∙ any_takes _ state.pattern.now a.at a.suffix byte c.in-46.is), h.within)

pub returns-in-37 : goal.returns-in-37
returns-in-37 c =
    let a = c.args in
    let state = a.state.now in
    let h = c.reach_by-in-37.ensures in
    (h.reaches _ (λ byte r l post. let e : r ≡ class_in state.classes.now (byte_at state.pattern.now (a.at + 1)) byte = search rules in e ∙ class_takes _ state.pattern.now a.at a.suffix byte c.in-37.is), h.within)

pub returns-then-state-next-eq94 : goal.returns-then-state-next-eq94
returns-then-state-next-eq94 c =
    let a = c.args in
    let state = a.state.now in
    let h = c.reach_by-then-state-next-eq94.ensures in (
      h.reaches _ (λ byte r l post.
          let e : r ≡ not (is_any_of (class_in state.classes.now) (elements_of state.pattern.now (a.suffix - 1) (a.at + 2)) byte) = search rules in
          e ∙ set_complement state.pattern.now (a.suffix - 1) (class_in state.classes.now) byte a.at c.if-state-next-eq94.true ∙ set_takes _ state.pattern.now a.at a.suffix byte c.in-91.is),
      h.within,
    )

pub returns-else-state-next-eq94 : goal.returns-else-state-next-eq94
returns-else-state-next-eq94 c =
    let a = c.args in
    let state = a.state.now in
    let h = c.reach_by-in-91.ensures in (
      h.reaches _ (λ byte r l post.
          let e : r ≡ is_any_of (class_in state.classes.now) (elements_of state.pattern.now (a.suffix - 1) (a.at + 1)) byte = search rules in
          e ∙ set_plain state.pattern.now (a.suffix - 1) (class_in state.classes.now) byte a.at c.if-state-next-eq94.false ∙ set_takes _ state.pattern.now a.at a.suffix byte c.in-91.is),
      h.within,
    )

pub returns-in_default : goal.returns-in_default
returns-in_default c =
    let a = c.args in
    let state = a.state.now in
    let h = c.reach_by-in_default.ensures in
    (h.reaches _ (λ byte r l post. let e : r ≡ eqb (byte_at state.pattern.now a.at) byte = search rules in e ∙ byte_takes _ state.pattern.now a.at a.suffix byte (λ f. omega arith) (λ f. omega arith) (λ f. omega arith)), h.within)
