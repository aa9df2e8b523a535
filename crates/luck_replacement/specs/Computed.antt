-- Every definition of this crate but those of Inner.antt, and of the crates below, for examples: `unfolding computed`
-- lets them compute.
-- Assumes nothing.
use Rattle.luck_replacement.specs.Replacement
use Rattle.luck_replacement.specs.Counts

unfoldable pub computed : Unit {0}
unfolding
    Rattle.luck_answer.specs.Computed.computed
    Replacement.escaped Replacement.pieces Replacement.allows_digit Replacement.pieces_walk Replacement.check_replacement
    Counts.is_accepted Counts.alone Counts.accepted_for_all Counts.smallest_accepted Counts.refused_or_depends
    Counts.for_counts Counts.for_range Counts.check_ranged Counts.ranged_answer Counts.is_dependent Counts.accepts
    Counts.largest_digit Counts.by_ends
computed = tt
