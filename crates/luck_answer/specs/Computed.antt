-- Every definition of this crate and of those below, for examples: `unfolding computed` lets them compute.
-- Assumes nothing.
use Rattle.luck_answer.specs.Answer

unfoldable pub computed : Unit {0}
unfolding
    Rattle.luck_token.specs.Computed.computed
    Answer.check_text
computed = tt
