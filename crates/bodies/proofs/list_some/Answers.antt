-- `bodies::list_some` meets its contract. Assumes nothing.
use Rattle.std.proofs.Common.{length, rules}
use Rattle.bodies.proofs.Buffers.{may_read, rows_on, more_after}
use Rattle.bodies.proofs.list_some.Goals as goal

pub returns-then-wrote-gt0 : goal.returns-then-wrote-gt0
returns-then-wrote-gt0 c =
    let a = c.args in
    let fed = c.feed-fed in
    record {
      within = search rules;
      goes_on = rows_on a.input.now a.held.at a.held.end (length a.output.now) a.held.state fed.result fed.ensures.answer;
    }

pub read_more-requires : goal.read_more-requires
read_more-requires c =
    let a = c.args in
    let fed = c.feed-fed in
    record {
      unended =
          may_read a.input.now a.held.at a.held.end (length a.output.now) a.held.state fed.result fed.ensures.answer c.if-wrote-gt0.false
          (search rules) (search rules);
      room = search rules;
    }

pub returns : goal.returns
returns c =
    let a = c.args in
    let fed = c.feed-fed in
    record {
      within = search rules;
      goes_on =
          more_after a.input.now a.held.at a.held.end (length a.output.now) a.held.state fed.result fed.ensures.answer c.read_more.result _
          c.read_more.ensures.goes_on;
    }
