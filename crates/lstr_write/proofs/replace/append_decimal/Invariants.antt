-- `lstr_write::replace::append_decimal` meets its contract. The invariant: the digits written and those of the number left make the whole. Assumes nothing.
use Rattle.lstr_write.proofs.Decimals as decimals
use Rattle.lstr_write.proofs.replace.append_decimal.Given as goal

abbrev pub invariant-loop-left : goal.invariant-loop-left
invariant-loop-left l = decimals.Digits l.number l.digits l.first l.left

abbrev pub decreases-loop-left : goal.decreases-loop-left
decreases-loop-left l = l.first
