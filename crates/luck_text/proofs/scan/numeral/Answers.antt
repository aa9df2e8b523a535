-- `luck_text::scan::numeral` meets its contract. The number so far stays at the largest. Assumes nothing.
use mathlib.Core.Path.{refl}
use Rattle.luck_text.specs.Bytes.{numeral, numeral_from}
use Rattle.luck_text.proofs.Bytes.{spelled_more}
use Rattle.luck_text.proofs.scan.numeral.Goals as goal

pub loop-byte-init : goal.loop-byte-init
unfolding numeral numeral_from
loop-byte-init c = refl

pub loop-byte-preserved : goal.loop-byte-preserved
loop-byte-preserved c =
    let l = c.loop-byte in
    spelled_more c.args.base c.front-byte-items.result.now l.byte-index l.value _ _ c.loop-byte-test.true l.invariant c.digit_value.ensures.0 c.with_digit-value.ensures
