-- `lstr_item::capture::Captures::capture_to_close` meets its contract. Assumes nothing.
use Rattle.std.proofs.Common.{◌≡◌}
use Rattle.lstr_item.specs.Match.{capture_to_close}
use Rattle.lstr_item.specs.Inner.{pairs_of, captures_of}
use Rattle.lstr_item.proofs.capture.Captures.capture_to_close.Given as goal

-- none of those passed is open
abbrev pub invariant-loop-last : goal.invariant-loop-last
invariant-loop-last l = capture_to_close (captures_of l.self) ≡ capture_to_close (pairs_of l.last l.self.pairs)
