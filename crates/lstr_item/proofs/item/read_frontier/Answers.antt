-- `lstr_item::item::read_frontier` meets its contract. Assumes nothing.
use Rattle.std.proofs.Common.{arith}
use Rattle.lstr_item.proofs.Reading.{frontier_at, frontier_unclosed, frontier_no_set, frontier_last}
use Rattle.lstr_item.proofs.item.read_frontier.Goals as goal

pub returns-in-Some : goal.returns-in-Some
returns-in-Some c =
    let a = c.args in
    let pre = c.requires in
    let set = c.in-Some.ensures in
    frontier_at a.pattern.now a.at (omega arith) pre.1 pre.0 pre.2 c.if-pattern-opening-eq91.true c.in-Some.closing set.0 set.1.0 set.1.1

pub returns-in-None : goal.returns-in-None
returns-in-None c =
    let a = c.args in
    let pre = c.requires in
    frontier_unclosed a.pattern.now a.at (omega arith) pre.1 pre.0 pre.2 c.if-pattern-opening-eq91.true c.in-None.ensures.0

pub returns-else-pattern-opening-eq91 : goal.returns-else-pattern-opening-eq91
returns-else-pattern-opening-eq91 c =
    let a = c.args in
    let pre = c.requires in
    frontier_no_set a.pattern.now a.at (omega arith) pre.1 pre.0 pre.2 c.if-pattern-opening-eq91.false

pub returns-else-opening-pattern : goal.returns-else-opening-pattern
returns-else-opening-pattern c =
    let a = c.args in
    let pre = c.requires in
    frontier_last a.pattern.now a.at (omega arith) pre.1 pre.0 pre.2 c.if-opening-pattern.false
