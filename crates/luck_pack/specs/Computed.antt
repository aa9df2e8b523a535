-- Every definition of this crate and of those below: `unfolding computed` lets them compute, in examples and in the proofs
-- of functions of one byte.
-- Assumes nothing.
use Rattle.luck_pack.specs.Pack

unfoldable pub computed : Unit {0}
unfolding
    Rattle.luck_answer.specs.Computed.computed
    Pack.getnumlimit Pack.fixed_string Pack.numbered_option Pack.getoption Pack.kind_of Pack.number_or Pack.luck_sizeof
    Pack.luck_size Pack.maxalign Pack.is_power_of_two Pack.is_misaligned Pack.aligned Pack.variable Pack.align_by
    Pack.alignment_of Pack.align_to_next Pack.kind_turn Pack.option_turn Pack.pack_turn Pack.pack_end Pack.pack_walk
    Pack.check_pack Pack.options_up_to Pack.options_from Pack.options
computed = tt
