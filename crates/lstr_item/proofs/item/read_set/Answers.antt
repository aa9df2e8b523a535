-- `lstr_item::item::read_set` meets its contract. Assumes nothing.
use Rattle.lstr_item.proofs.Reading.{set_at, set_unclosed}
use Rattle.lstr_item.proofs.item.read_set.Goals as goal

pub returns-in-Some : goal.returns-in-Some
returns-in-Some c =
    let a = c.args in
    let pre = c.requires in
    let set = c.in-Some.ensures in
    set_at a.pattern.now a.at pre.0 pre.1 c.in-Some.closing set.0 set.1.0 set.1.1 c.repeated.result c.repeated.ensures

pub returns-in-None : goal.returns-in-None
returns-in-None c =
    let a = c.args in
    let pre = c.requires in
    set_unclosed a.pattern.now a.at pre.0 pre.1 c.in-None.ensures.0
