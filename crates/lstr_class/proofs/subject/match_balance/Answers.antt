-- `lstr_class::subject::match_balance` meets its contract. Assumes nothing.
use Rattle.std.proofs.Common.{sym, ◌∙◌, arith}
use Rattle.lstr_class.proofs.Subjects.{balance_none, balance_ends, balance_closes, balance_opens, balance_passes, no_byte, other_byte, balance_starts}
use Rattle.lstr_class.proofs.subject.match_balance.Goals as goal

pub returns-then-subject-place : goal.returns-then-subject-place
returns-then-subject-place c = (sym (no_byte _ _ _ _ c.if-subject-place.true), tt)

pub returns-then-subject-place-2 : goal.returns-then-subject-place-2
returns-then-subject-place-2 c = (sym (other_byte _ _ _ _ c.if-subject-place.false c.if-subject-place-2.true), tt)

pub loop-at-init : goal.loop-at-init
loop-at-init c = record { rest = balance_starts _ _ _ _ c.if-subject-place.false c.if-subject-place-2.false; inside = omega arith; few = omega arith }

pub returns-then-depth-eq1 : goal.returns-then-depth-eq1
returns-then-depth-eq1 c =
    (sym (c.loop-at.invariant.rest ∙ balance_ends _ _ _ _ _ (omega arith) c.if-byte-closing.true c.if-depth-eq1.true), omega arith)

pub loop-at-preserved : goal.loop-at-preserved
loop-at-preserved c =
    record {
      rest = grind (arith, balance_closes, balance_opens, balance_passes);
      inside = grind arith;
      few = grind arith;
    }

pub returns : goal.returns
returns c = (sym (c.loop-at.invariant.rest ∙ balance_none _ _ _ _ _ (omega arith)), tt)
