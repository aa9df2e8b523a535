-- `luck_format::format::get_format` meets its contract. Assumes nothing.
use Rattle.luck_format.proofs.Formats as formats
use Rattle.luck_format.proofs.format.get_format.Goals as goal

pub returns-then-count-ge21-clause-reads : goal.returns-then-count-ge21-clause-reads
returns-then-count-ge21-clause-reads c = formats.long_specifier _ _ _ c.run-count.ensures c.if-count-ge21.true

pub returns-clause-reads : goal.returns-clause-reads
returns-clause-reads c = formats.short_specifier _ _ _ c.run-count.ensures c.if-count-ge21.false
