-- `luck_replacement::replacement::scan_replacement` meets its contract: the limit allows the digits that the count of captures does. Assumes nothing.
use mathlib.Core.Path.{sym, ◌∙◌}
use Rattle.luck_replacement.specs.Limit.{as_count}
use Rattle.luck_replacement.proofs.Unread.{same_walk, nothing_refused}
use Rattle.luck_replacement.proofs.replacement.scan_replacement.Goals as goal

pub returns-then-can_refuse : goal.returns-then-can_refuse
returns-then-can_refuse c =
    let a = c.args in
    c.scan_pieces.ensures ∙ same_walk a.is_strict (as_count c.of-limit.result) a.captures a.text.now c.of-limit.ensures

pub returns : goal.returns
returns c =
    let a = c.args in
    let limit = as_count c.of-limit.result in
    nothing_refused a.is_strict limit a.text.now (sym c.can_refuse.ensures ∙ c.if-can_refuse.false)
    ∙ same_walk a.is_strict limit a.captures a.text.now c.of-limit.ensures
