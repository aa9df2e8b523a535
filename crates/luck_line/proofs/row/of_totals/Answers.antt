-- `luck_line::row::of_totals` meets its contract. Assumes nothing.
use Rattle.std.proofs.Common.{ap, ◌∙◌}
use Rattle.luck_line.specs.Row.{seven_columns}
use Rattle.luck_line.proofs.Rows.{totals_put}
use Rattle.luck_line.proofs.row.of_totals.Goals as goal

pub returns : goal.returns
returns c =
    let a = c.args in
    totals_put a.read a.refused _ _
    (c.copy_from_slice.ensures.after ∙ c.seven_columns.ensures ∙ ap seven_columns c.shown-read.ensures)
    (c.copy_from_slice-2.ensures.after ∙ c.seven_columns-2.ensures ∙ ap seven_columns c.shown-refused.ensures)
