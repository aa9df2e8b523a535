-- `luck_pack::pack::scan_option` meets its contract. Assumes nothing.
use mathlib.Core.Path.{◌∙◌}
use Rattle.std.proofs.lemmas.Result.{err_from_is_err_and}
use Rattle.luck_pack.specs.Pack.{pack_state}
use Rattle.luck_pack.specs.Inner.{kept_turn}
use Rattle.luck_pack.proofs.Packs.{by_kept}
use Rattle.luck_pack.proofs.pack.scan_option.Goals as goal

pub returns-in_err-read-clause-turns : goal.returns-in_err-read-clause-turns
unfolding kept_turn
returns-in_err-read-clause-turns c =
    let a = c.args in
    let p = err_from_is_err_and c.from_residual.result c.from_residual.ensures.1 in
    rw (p.1, p.2) (λ values. by_kept a.is_packsize a.text.now a.at (pack_state values a.alignment) c.in_err-read.ensures.reads)

pub returns-clause-turns : goal.returns-clause-turns
returns-clause-turns c =
    let a = c.args in
    λ values. c.option_turn.ensures.turns values ∙ by_kept a.is_packsize a.text.now a.at (pack_state values a.alignment) c.in_ok-read.ensures.reads
