-- `luck_pack::pack::scan_fixed_string` meets its contract. Assumes nothing.
use Rattle.luck_pack.proofs.Packs.{no_fixed_size, fixed_size}
use Rattle.luck_pack.proofs.pack.scan_fixed_string.Goals as goal

pub returns-then-digits-eq0-clause-reads : goal.returns-then-digits-eq0-clause-reads
returns-then-digits-eq0-clause-reads c = no_fixed_size _ _ _ c.run-digits.ensures c.if-digits-eq0.true

pub returns-clause-reads : goal.returns-clause-reads
returns-clause-reads c = fixed_size _ _ _ c.run-digits.ensures c.if-digits-eq0.false
