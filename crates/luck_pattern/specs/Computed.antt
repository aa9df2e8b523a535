-- Every definition of this crate and of those below, for examples: `unfolding computed` lets them compute.
-- Assumes nothing.
use Rattle.luck_pattern.specs.Captures
use Rattle.luck_pattern.specs.Reading
use Rattle.luck_pattern.specs.Elements
use Rattle.luck_pattern.specs.Pattern
use Rattle.luck_pattern.specs.Ranges
use Rattle.luck_pattern.specs.Items

unfoldable pub computed : Unit {0}
unfolding
    Rattle.luck_answer.specs.Computed.computed
    Captures.latest_open Captures.close_latest Captures.is_closed Captures.all_closed
    Elements.element_at Elements.width_of Elements.placed_from Elements.placed_elements Elements.elements_in
    Elements.elements_of Elements.is_reversed Elements.reversed_in Elements.first_reversed
    Reading.head_of Reading.escape_of Reading.escape_at Reading.member_at Reading.member_by Reading.member_turn
    Reading.members_end Reading.first_member Reading.set_end
    Pattern.is_empty_set Pattern.onward Pattern.after_close
    Pattern.pattern_end Pattern.closed_as Pattern.reversed_of Pattern.set_as Pattern.set_read Pattern.escape_as
    Pattern.escape_read Pattern.head_turn Pattern.pattern_turn Pattern.pattern_walk Pattern.check_pattern_as
    Pattern.check_pattern Ranges.escape_set Ranges.head_set Ranges.item_set Ranges.reversed_before Ranges.reversed_set
    Ranges.item_reversed Ranges.without_reversed
    Items.set_of Items.repeat_of Items.repeat_width Items.repeated Items.read_single Items.read_set Items.read_frontier
    Items.read_escape Items.read_byte Items.read_head Items.read_item Items.then_items Items.items_from Items.items
computed = tt
