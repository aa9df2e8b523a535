-- `luck_text::scan::DigitBase::value` meets its contract. Assumes nothing.
use Rattle.luck_text.proofs.Bytes.{digit_here}
use Rattle.luck_text.proofs.scan.DigitBase.value.Goals as goal

pub overflow_sub-result : goal.overflow_sub-result
overflow_sub-result c = (digit_here c.args.digit c.requires).0
