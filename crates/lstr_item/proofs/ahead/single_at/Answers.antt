-- `lstr_item::ahead::single_at` meets its contract. Assumes nothing.
use Rattle.std.proofs.Common.{sym, ◌∙◌}
use Rattle.lstr_item.proofs.FirstTests.{single_ahead}
use Rattle.lstr_item.proofs.ahead.single_at.Goals as goal

pub returns-in-Single : goal.returns-in-Single
returns-in-Single c =
    let a = c.args in
    single_ahead a.pattern.now a.at _ _ a.steps (sym c.has_to_fit.ensures ∙ c.if-has_to_fit.true) c.in-Single.ensures
