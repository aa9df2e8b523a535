-- `luck_pack::pack::aligned` meets its contract. Assumes nothing.
use mathlib.Core.Path.{sym, ◌∙◌}
use Rattle.luck_pack.proofs.Packs.{misaligned, well_aligned}
use Rattle.luck_pack.proofs.pack.aligned.Goals as goal

pub returns-then-is_misaligned-clause-turns : goal.returns-then-is_misaligned-clause-turns
returns-then-is_misaligned-clause-turns c =
    let t = c.args.turn in
    λ values. misaligned c.args.at t.width c.args.size t.alignment t.has_value values (sym c.is_misaligned.ensures ∙ c.if-is_misaligned.true)

pub returns-clause-turns : goal.returns-clause-turns
returns-clause-turns c =
    let t = c.args.turn in
    λ values. well_aligned c.args.at t.width c.args.size t.alignment t.has_value values (sym c.is_misaligned.ensures ∙ c.if-is_misaligned.false)
