-- `luck_line::row::row_of` meets its contract. Assumes nothing.
use Rattle.std.proofs.Common.{[], ◌∙◌, arith}
use Rattle.luck_line.proofs.Rows.{room_left, row_put}
use Rattle.luck_line.proofs.row.row_of.Goals as goal

pub slice_bounds-row-end-3 : goal.slice_bounds-row-end-3
slice_bounds-row-end-3 c =
    let a = c.args in
    omega (
      arith,
      room_left a.number a.offset a.count _ _ [] (c.copy_from_slice.ensures.after ∙ c.four_columns.ensures)
          (c.copy_from_slice-2.ensures.after ∙ c.seven_columns.ensures),
    )

pub returns : goal.returns
returns c =
    let a = c.args in
    row_put a.number a.offset a.count _ _ _ (c.copy_from_slice.ensures.after ∙ c.four_columns.ensures)
    (c.copy_from_slice-2.ensures.after ∙ c.seven_columns.ensures)
    (c.copy_from_slice-3.ensures.after ∙ c.seven_columns-2.ensures)
