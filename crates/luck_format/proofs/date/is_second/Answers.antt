-- `luck_format::date::is_second` meets its contract. Assumes nothing.
use Rattle.luck_text.specs.Bytes.{when◌then◌else◌}
use Rattle.luck_format.specs.Date.{second_bytes}
use Rattle.luck_format.proofs.date.is_second.Goals as goal

pub returns-in-69 : goal.returns-in-69
unfolding second_bytes when◌then◌else◌
returns-in-69 c = rw c.in-69.is c.has.ensures

pub returns-in-79 : goal.returns-in-79
unfolding second_bytes when◌then◌else◌
returns-in-79 c = rw c.in-79.is c.has-in-79.ensures

pub returns-in-35 : goal.returns-in-35
unfolding second_bytes when◌then◌else◌
returns-in-35 c = rw c.in-35.is c.has-in-35.ensures
