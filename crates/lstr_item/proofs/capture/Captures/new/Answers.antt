-- `lstr_item::capture::Captures::new` meets its contract. Assumes nothing.
use Rattle.std.proofs.Common.{refl, arith}
use Rattle.lstr_item.specs.Inner.{pairs_of}
use Rattle.lstr_item.proofs.capture.Captures.new.Goals as goal

pub returns : goal.returns
unfolding pairs_of
returns c = (refl, λ place. record { each = λ i h. absurd (omega arith) })
