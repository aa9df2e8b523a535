-- Every definition of this crate and of those below, for examples: `unfolding computed` lets them compute.
-- Assumes nothing.
use Rattle.lstr_write.specs.Replace

unfoldable pub computed : Unit {0}
unfolding
    Rattle.lstr_item.specs.Computed.computed
    Rattle.luck_replacement.specs.Computed.computed
    Replace.and_then Replace.append Replace.decimal_from Replace.decimal Replace.add_capture Replace.add_digit
    Replace.add_piece Replace.add_pieces
computed = tt
