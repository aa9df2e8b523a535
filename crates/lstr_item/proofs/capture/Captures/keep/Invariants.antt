-- `lstr_item::capture::Captures::keep` meets its contract. The loop's invariant: the pairs passed are kept. Assumes nothing.
use Rattle.std.proofs.Common.{◌≡◌, ℕ, ◌<◌, get_or, length}
use Rattle.lstr_item.specs.Inner.{no_pair}
use Rattle.lstr_item.proofs.capture.Captures.keep.Given as goal

abbrev pub invariant-loop-i : goal.invariant-loop-i
invariant-loop-i l = (length l.kept ≡ 32) × ((k : ℕ) → k < l.i → get_or l.kept k no_pair ≡ get_or l.self.pairs k no_pair)
