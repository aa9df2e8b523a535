-- `luck_format::format::two_digits` meets its contract. Assumes nothing.
use Rattle.luck_format.proofs.Formats as formats
use Rattle.luck_format.proofs.format.two_digits.Goals as goal

pub returns-then-count-gt2-clause-reads : goal.returns-then-count-gt2-clause-reads
returns-then-count-gt2-clause-reads c = formats.many_digits _ _ _ c.run-count.ensures _ c.if-count-gt2.true

pub returns-clause-reads : goal.returns-clause-reads
returns-clause-reads c = formats.few_digits _ _ _ c.run-count.ensures _ c.if-count-gt2.false
