-- `lstr_item::capture::Captures::push` meets its contract. Assumes nothing.
use Rattle.lstr_item.proofs.Captures.{all_taken, starts_capture}
use Rattle.lstr_item.proofs.capture.Captures.push.Goals as goal

pub returns-then-self-ge-LUA_MAXCAPTURES-clause-goes_on : goal.returns-then-self-ge-LUA_MAXCAPTURES-clause-goes_on
returns-then-self-ge-LUA_MAXCAPTURES-clause-goes_on c = λ rest l u. all_taken _ _ c.args.self.now.whole c.args.self.now.few rest _ l u _ c.if-self-ge-LUA_MAXCAPTURES.true

pub returns-clause-goes_on : goal.returns-clause-goes_on
returns-clause-goes_on c = λ rest l u. starts_capture _ _ c.args.self.now.whole c.args.self.now.few rest _ l u _ c.if-self-ge-LUA_MAXCAPTURES.false
