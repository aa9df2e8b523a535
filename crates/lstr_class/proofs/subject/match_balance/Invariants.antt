-- `lstr_class::subject::match_balance` meets its contract. Assumes nothing.
use Rattle.std.proofs.Common.{◌≡◌, ◌≤◌}
use Rattle.lstr_class.specs.Subject.{match_balance}
use Rattle.lstr_class.proofs.Subjects.{balance_from}
use Rattle.lstr_class.proofs.subject.match_balance.Given as goal

-- from `at` on the bytes give the whole answer
abbrev pub invariant-loop-at : goal.invariant-loop-at
invariant-loop-at l =
    record {
      rest : match_balance l.subject l.opening l.closing l.place ≡ balance_from l.subject l.opening l.closing l.at l.depth;
      inside : 1 ≤ l.depth;
      few : l.depth ≤ l.at;
    }
