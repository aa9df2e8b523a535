-- Every definition of this crate and of those below, for examples: `unfolding computed` lets them compute.
-- Assumes nothing.
use Rattle.lstr_gsub.specs.Gsub

unfoldable pub computed : Unit {0}
unfolding
    Rattle.lstr_write.specs.Computed.computed
    Gsub.and_wrote Gsub.ends_again Gsub.copy_byte Gsub.copy_rest Gsub.round Gsub.anchored_round Gsub.rounds_from Gsub.rounds
    Gsub.str_gsub Gsub.writer_of Gsub.gsub
computed = tt
