-- Every definition of this crate and of those below: `unfolding computed` lets them compute, in examples and in the proofs
-- of functions of one byte.
-- Assumes nothing.
use Rattle.luck_format.specs.Format
use Rattle.luck_format.specs.Date

unfoldable pub computed : Unit {0}
unfolding
    Rattle.luck_answer.specs.Computed.computed
    Format.is_flag Format.is_modifier Format.get_format Format.scan_precision Format.scan_width Format.scan_format
    Format.modifiers_at Format.is_conversion Format.flags_for Format.flags_run Format.takes_precision Format.after_two_digits
    Format.good_modifiers Format.conversion_turn Format.specifier_turn Format.percent_turn Format.format_turn
    Format.format_end Format.format_walk Format.check_format
    Date.second_bytes Date.is_pair Date.single_width Date.pair_width Date.conversion_width Date.date_turn Date.date_end
    Date.is_star_t Date.is_table Date.conversions_walk Date.date_walk Date.check_date
computed = tt
