-- `lstr_item::capture::Captures::close` meets its contract. Assumes nothing.
use Rattle.lstr_item.proofs.Captures.{none_to_close, ends_capture}
use Rattle.lstr_item.proofs.capture.Captures.close.Goals as goal

pub returns-in-Some-clause-goes_on : goal.returns-in-Some-clause-goes_on
returns-in-Some-clause-goes_on c = λ rest l u. ends_capture _ _ c.args.self.now.whole c.args.self.now.few rest _ l u c.in-Some.index c.in-Some.ensures.0 c.in-Some.ensures.1 c.requires.0

pub returns-in-None-clause-goes_on : goal.returns-in-None-clause-goes_on
returns-in-None-clause-goes_on c = λ rest l u. none_to_close _ _ c.args.self.now.whole c.args.self.now.few rest _ l u c.in-None.ensures.0
