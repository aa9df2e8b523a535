-- `luck_token::string::other_escape` meets its contract. Assumes nothing.
use Rattle.luck_token.specs.Literal.{other_escape}
use Rattle.luck_text.specs.Bytes.{when◌then◌else◌}
use Rattle.luck_token.proofs.string.other_escape.Goals as goal

pub returns-then-rules : goal.returns-then-rules
unfolding other_escape when◌then◌else◌
returns-then-rules c = rw c.if-rules.true

pub returns : goal.returns
unfolding other_escape when◌then◌else◌
returns c = rw c.if-rules.false
