-- `luck_format::date::conversion_width` meets its contract. Assumes nothing.
use Prim.Native.Nat.{ℕ, ◌+◌}
use mathlib.Core.Path.{sym, ap, ◌∙◌}
use Rattle.luck_text.specs.Bytes.{byte_at, among}
use Rattle.luck_format.specs.Date.{second_bytes, pair_width, single_width}
use Rattle.luck_format.proofs.Dates as laws
use Rattle.luck_format.proofs.date.conversion_width.Goals as goal

pub returns-then-is_first-clause-reads : goal.returns-then-is_first-clause-reads
unfolding pair_width
returns-then-is_first-clause-reads c =
    let a = c.args in
    rw (c.then_some.ensures, c.is_second.ensures, c.byte_at.ensures)
    (laws.width_by 3 _ ∙ laws.by_pair a.has_options a.text.now a.at (sym c.is_first.ensures ∙ c.if-is_first.true))

pub returns-then-is_first-clause-inside : goal.returns-then-is_first-clause-inside
returns-then-is_first-clause-inside c =
    let a = c.args in
    rw c.then_some.ensures (laws.second_in _ a.text.now a.at c.is_second.result (c.is_second.ensures ∙ ap (λ (b : ℕ). among b (second_bytes (byte_at a.text.now (a.at + 1)))) c.byte_at.ensures))

pub returns-clause-reads : goal.returns-clause-reads
unfolding single_width
returns-clause-reads c =
    let a = c.args in
    rw (c.then_some-2.ensures, c.is_single.ensures)
    (laws.width_by 2 _ ∙ laws.by_single a.has_options a.text.now a.at (sym c.is_first.ensures ∙ c.if-is_first.false))
