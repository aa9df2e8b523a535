-- `luck_pack::pack::scan_pack_option` meets its contract. Assumes nothing.
use mathlib.Core.Path.{◌∙◌}
use Rattle.luck_pack.proofs.Packs.{no_option, plain_read_lem, sized_read}
use Rattle.luck_pack.proofs.pack.scan_pack_option.Goals as goal

pub returns-then-text-at-clause-reads : goal.returns-then-text-at-clause-reads
returns-then-text-at-clause-reads c = no_option c.args.text.now c.args.at c.if-text-at.true

pub returns-in-Some-clause-reads : goal.returns-in-Some-clause-reads
returns-in-Some-clause-reads c = plain_read_lem c.args.text.now c.args.at c.if-text-at.false c.in-Some.option c.in-Some.ensures

pub returns-in-None-clause-reads : goal.returns-in-None-clause-reads
returns-in-None-clause-reads c = c.scan_sized_option.ensures.reads ∙ sized_read c.args.text.now c.args.at c.if-text-at.false c.in-None.ensures
