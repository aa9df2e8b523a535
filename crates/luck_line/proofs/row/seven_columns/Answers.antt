-- `luck_line::row::seven_columns` meets its contract. Assumes nothing.
use Rattle.luck_line.specs.Row.{justified, seven_columns}
use Rattle.luck_line.proofs.row.seven_columns.Goals as goal

pub returns : goal.returns
unfolding seven_columns justified
returns c =
    simp (
      c.last_column.ensures,
      c.column-6.ensures,
      c.column-5.ensures,
      c.column-4.ensures,
      c.column-3.ensures,
      c.column-2.ensures,
      c.column.ensures,
    )
