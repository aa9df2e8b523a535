-- `luck_pack::pack::scan_limited_size` meets its contract. Assumes nothing.
use mathlib.Core.Path.{sym, ◌∙◌}
use Rattle.luck_pack.proofs.Packs.{default_size, size_outside, size_within}
use Rattle.luck_pack.proofs.pack.scan_limited_size.Goals as goal

pub returns-then-digits-eq0-clause-reads : goal.returns-then-digits-eq0-clause-reads
returns-then-digits-eq0-clause-reads c = λ letter. default_size letter _ _ _ c.decimal_digits-number.ensures.count c.if-digits-eq0.true

pub returns-then-not-is_size-clause-reads : goal.returns-then-not-is_size-clause-reads
returns-then-not-is_size-clause-reads c =
    λ letter. size_outside letter _ _ _ c.decimal_digits-number.ensures.count c.if-digits-eq0.false _ c.decimal_digits-number.ensures.value (sym c.is_size.ensures ∙ c.if-not-is_size.true)

pub returns-clause-reads : goal.returns-clause-reads
returns-clause-reads c =
    λ letter. size_within letter _ _ _ c.decimal_digits-number.ensures.count c.if-digits-eq0.false _ c.decimal_digits-number.ensures.value (sym c.is_size.ensures ∙ c.if-not-is_size.false)
