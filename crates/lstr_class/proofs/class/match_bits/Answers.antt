-- `lstr_class::class::match_bits` meets its contract. Assumes nothing.
use Rattle.lstr_class.proofs.Classes.{bits_none, bits_capital, bits_small}
use Rattle.lstr_class.proofs.class.match_bits.Goals as goal

pub returns-then-bits-eq0 : goal.returns-then-bits-eq0
returns-then-bits-eq0 c =
    bits_none c.args.classes.now c.args.class c.args.byte _ c.requires c.if-bits-eq0.true

pub returns-then-class-lt97 : goal.returns-then-class-lt97
returns-then-class-lt97 c =
    bits_capital c.args.classes.now c.args.class c.args.byte _ c.requires c.ranges.byte.fits c.if-bits-eq0.false c.if-class-lt97.true

pub returns : goal.returns
returns c =
    bits_small c.args.classes.now c.args.class c.args.byte _ c.requires c.ranges.byte.fits c.if-bits-eq0.false c.if-class-lt97.false
