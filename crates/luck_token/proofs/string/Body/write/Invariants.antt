-- `luck_token::string::Body::write` meets its contract. The invariant has the bytes so far, which the output holds if they fit. A turn that passes over
-- blocks may leave `at` where it was, but sets `singles`; any other turn moves `at` on. Assumes nothing.
use Prim.Native.Nat.{◌+◌, ◌*◌, ◌-◌}
use lib.ListN.{length}
use Rattle.luck_token.proofs.Values as values
use Rattle.luck_token.proofs.string.Body.write.Given as goal

abbrev pub invariant-loop-at : goal.invariant-loop-at
invariant-loop-at l = values.Kept l.self.long l.self.rules l.self.text.now l.initial.output l.output l.at l.size

abbrev pub decreases-loop-at : goal.decreases-loop-at
decreases-loop-at l = 17 * (length l.self.text.now - l.at) + (16 - l.singles)
