-- `lstr_gsub::gsub::run_rounds` meets its contract.
use native.Mathlib.Omega.{arith}
use Rattle.std.specs.Prelude.{Ok, Err}
use Rattle.luck_pattern.specs.Items.{items}
use Rattle.lstr_class.specs.Inner.{class_in}
use Rattle.lstr_item.proofs.Captures.{captures_part, kept_part}
use Rattle.lstr_gsub.proofs.Rounds as rounds
use borrow.Author.Rules.{rules}
use Rattle.lstr_gsub.proofs.gsub.run_rounds.Goals as goal
use Rattle.lstr_gsub.proofs.gsub.run_rounds.Goals.{Joined-attempt, in-Matched+else-ne, in-Failed}

pub returns-in-Stopped : goal.returns-in-Stopped
returns-in-Stopped c =
    let l = c.rounds in
    let o = rw c.in-Stopped.is at c.attempt_at-attempt.ensures.0 in
    rounds.reported_stop _ _ _ _ _ _ _ _ c.stopped.ensures l.invariant.upto (rounds.stopping _ _ _ _ _ _ _ _ _ _ _ _ _ l.invariant _ _ _ o)

pub invariant_of-found : goal.invariant_of-found
invariant_of-found c =
    let o = rw c.in-Matched.is at c.attempt_at-attempt.ensures.0 in
    let h = rw c.in-Matched.is at c.attempt_at-attempt.ensures.1 in
    record { inside = (rounds.ends_later _ _ _ _ _ _ _ _ _ _ _ _ _ c.rounds.invariant _ _ _ o, h.0); kept = kept_part _ _ _ h.1 }

pub returns-in-Err : goal.returns-in-Err
returns-in-Err c =
    let o = rw c.in-Matched.is at c.attempt_at-attempt.ensures.0 in
    let more = rw (captures_part c.in-Matched.count c.attempt_at-attempt.new.kept) at c.in-Err.ensures in
    let ends = rounds.replaced_ends _ _ _ _ _ _ _ _ _ _ _ _ _ c.rounds.invariant _ _ _ o (rounds.other_end _ _ c.if-ne.ensures) _ (search rules) _ more in
    rounds.reported_writing _ (Err c.in-Err.stopped) _ _ _ _ _ c.wrote.ensures ends.0 ends.1

pub rounds-smaller-in-Matched : goal.rounds-smaller-in-Matched
rounds-smaller-in-Matched c =
    let o = rw c.in-Matched.is at c.attempt_at-attempt.ensures.0 in
    let t = rounds.match_steps _ _ _ _ _ _ _ _ _ _ _ _ _ c.rounds.invariant _ _ _ o in
    omega (arith, t.0, t.1)

pub rounds-preserved-in-Matched : goal.rounds-preserved-in-Matched
rounds-preserved-in-Matched c =
    let o = rw c.in-Matched.is at c.attempt_at-attempt.ensures.0 in
    let h = rw c.in-Matched.is at c.attempt_at-attempt.ensures.1 in
    let more = rw (captures_part c.in-Matched.count c.attempt_at-attempt.new.kept) at c.in-Ok.ensures in
    rounds.replaced_goes _ _ _ _ _ _ _ _ _ _ _ _ _ c.rounds.invariant _ _ _ o (rounds.other_end _ _ c.if-ne.ensures) _ (search rules) _ more h.0

-- no replacement: the attempt has failed, or it ends where the last match did
copied : (c : Joined-attempt) → rounds.Copies (class_in c.args.state.now.classes.now) c.args.state.now.subject.now c.args.state.now.budget c.args.is_strict c.args.replacement.now (items c.args.state.now.pattern.now 0) c.args.output.now c.rounds.place c.rounds.last c.rounds.written c.rounds.replacements c.rounds.steps c.rounds.output c.rounds.invariant c.attempt_at-attempt.result.steps
copied c =
    elim c.match-attempt.branch [
      | in-Matched+else-ne w ↦
          let o = rw w.in-Matched.is at c.attempt_at-attempt.ensures.0 in
          rounds.matched_copies _ _ _ _ _ _ _ _ _ _ _ _ _ c.rounds.invariant _ _ _ o (rounds.same_end _ _ w.if-ne.ensures)
      | in-Failed w ↦
          let o = rw w.in-Failed.is at c.attempt_at-attempt.ensures.0 in
          rounds.failed_copies _ _ _ _ _ _ _ _ _ _ _ _ _ c.rounds.invariant _ o
    ]

pub returns-then-state-place : goal.returns-then-state-place
returns-then-state-place c =
    let copies = copied (goal.at.returns-then-state-place c).Joined-attempt in
    rounds.reported_writing _ (Ok c.rounds.written) _ _ _ _ _ c.wrote-then-state-place.ensures c.rounds.invariant.upto (rounds.all_copied _ _ _ _ _ _ _ _ _ _ _ _ _ c.rounds.invariant _ copies c.if-state-place.true)

pub returns-in-Err-append_byte : goal.returns-in-Err-append_byte
returns-in-Err-append_byte c =
    let copies = copied (goal.at.returns-in-Err-append_byte c).Joined-attempt in
    let ends = rounds.copy_ends _ _ _ _ _ _ _ _ _ _ _ _ _ c.rounds.invariant _ copies c.if-state-place.false _ (search rules) _ c.in-Err-append_byte.ensures in
    rounds.reported_writing _ (Err c.in-Err-append_byte.stopped) _ _ _ _ _ c.wrote-in-Err-append_byte.ensures ends.0 ends.1

pub rounds-smaller : goal.rounds-smaller
rounds-smaller c =
    let copies = copied (goal.at.rounds-smaller c).Joined-attempt in
    omega (arith, copies.taken.0, copies.taken.1)

pub rounds-preserved : goal.rounds-preserved
rounds-preserved c =
    let copies = copied (goal.at.rounds-preserved c).Joined-attempt in
    rounds.copy_goes _ _ _ _ _ _ _ _ _ _ _ _ _ c.rounds.invariant _ copies c.if-state-place.false _ (search rules) _ c.in-Ok-append_byte.ensures
