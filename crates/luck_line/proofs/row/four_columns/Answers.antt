-- `luck_line::row::four_columns` meets its contract. Assumes nothing.
use Rattle.luck_line.specs.Row.{justified, four_columns}
use Rattle.luck_line.proofs.row.four_columns.Goals as goal

pub returns : goal.returns
unfolding four_columns justified
returns c = simp (c.last_column.ensures, c.column-3.ensures, c.column-2.ensures, c.column.ensures)
