-- `lstr_item::capture::Captures::is_open` meets its contract. Assumes nothing.
use Rattle.lstr_item.proofs.Captures.{latest_is_open, none_is_open}
use Rattle.lstr_item.proofs.capture.Captures.is_open.Goals as goal

pub returns-then-self-gt0 : goal.returns-then-self-gt0
returns-then-self-gt0 c = latest_is_open _ _ c.if-self-gt0.true

pub returns-else-self-gt0 : goal.returns-else-self-gt0
returns-else-self-gt0 c = none_is_open _ _ c.if-self-gt0.false
