-- `lstr_gsub::gsub::run_anchored` meets its contract.
use Rattle.std.specs.Prelude.{Err}
use native.Mathlib.Omega.{arith}
use Rattle.lstr_item.proofs.Captures.{captures_part}
use Rattle.lstr_write.proofs.Outputs as outputs
use Rattle.lstr_gsub.proofs.Rounds as rounds
use borrow.Author.Rules.{rules}
use Rattle.lstr_gsub.proofs.gsub.run_anchored.Goals as goal

pub returns-in-Stopped : goal.returns-in-Stopped
returns-in-Stopped c =
    let o = rw c.in-Stopped.is at c.attempt-attempt.ensures.0 in
    rounds.reported_stop _ 0 _ _ _ _ _ _ c.stopped.ensures (outputs.begins 0 _ (omega arith)) (rounds.anchored_stops _ _ _ _ _ _ _ _ _ _ o)

pub returns-in-Failed : goal.returns-in-Failed
returns-in-Failed c =
    let o = rw c.in-Failed.is at c.attempt-attempt.ensures.0 in
    let more = c.append.ensures in
    let u = outputs.begins 0 c.args.output.now (omega arith) in
    rounds.reported_writing _ _ _ _ _ _ _ c.wrote.ensures (outputs.goes_on 0 _ 0 _ u _ _ _ more (search rules)) (rounds.anchored_fails _ _ _ _ _ _ _ _ o _ _ more)

pub returns-in-Ok : goal.returns-in-Ok
returns-in-Ok c =
    let o = rw c.in-Matched.is at c.attempt-attempt.ensures.0 in
    let more = rw (captures_part c.in-Matched.count c.attempt-attempt.new.kept) at c.in-Ok.ensures in
    let rest = c.append-in-Ok.ensures in
    let u = outputs.begins 0 c.args.output.now (omega arith) in
    let v = outputs.goes_on 0 _ 0 _ u _ _ _ more (search rules) in
    rounds.reported_writing _ _ _ _ _ _ _ c.wrote-in-Ok.ensures (outputs.goes_on 0 _ _ _ v _ _ _ rest (search rules))
    (rounds.anchored_copies _ _ _ _ _ _ _ _ _ _ o _ _ more v.same _ (rounds.rest_of c.args.state.now.subject.now c.in-Matched.end) _ _ rest)

pub returns-in-Err : goal.returns-in-Err
returns-in-Err c =
    let o = rw c.in-Matched.is at c.attempt-attempt.ensures.0 in
    let more = rw (captures_part c.in-Matched.count c.attempt-attempt.new.kept) at c.in-Err.ensures in
    let u = outputs.begins 0 c.args.output.now (omega arith) in
    rounds.reported_writing _ (Err c.in-Err.stopped) _ _ _ _ _ c.wrote-in-Err.ensures (outputs.goes_on 0 _ 0 _ u _ _ _ more (search rules)) (rounds.anchored_ends _ _ _ _ _ _ _ _ _ _ o _ _ more)
