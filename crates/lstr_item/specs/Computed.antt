-- Every definition of this crate and of those below, for examples: `unfolding computed` lets them compute.
-- Assumes nothing.
use Rattle.lstr_item.specs.Single
use Rattle.lstr_item.specs.Match

unfoldable pub computed : Unit {0}
unfolding
    Rattle.lstr_class.specs.Computed.computed
    Rattle.luck_pattern.specs.Computed.computed
    Single.is_element Single.is_any_of Single.in_set Single.fits
    Match.capture_to_close Match.due Match.new_level Match.or_else Match.do_start_capture Match.do_end_capture
    Match.match_capture Match.do_back_reference Match.goes_on_at Match.is_frontier Match.passed_over Match.longest_first
    Match.max_expand Match.fits_at Match.reach Match.min_expand Match.expand Match.do_item Match.match
computed = tt
