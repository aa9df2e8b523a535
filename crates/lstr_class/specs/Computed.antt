-- Every definition of this crate and of those below, for examples: `unfolding computed` lets them compute.
-- Assumes nothing.
use Rattle.lstr_class.specs.Class
use Rattle.lstr_class.specs.Subject

unfoldable pub computed : Unit {0}
unfolding
    Rattle.luck_text.specs.Computed.computed
    Class.is_lower Class.is_upper Class.is_alpha Class.is_alnum Class.is_cntrl Class.is_graph Class.is_punct Class.to_lower
    Class.class_test Class.class_by Class.match_class Class.class_of
    Subject.same_bytes Subject.balance_end Subject.match_balance Subject.byte_before
computed = tt
