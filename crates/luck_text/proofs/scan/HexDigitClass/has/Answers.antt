-- `luck_text::scan::HexDigitClass::has` meets its contract. Assumes nothing.
use Rattle.luck_text.specs.Bytes.{is_digit, is_xdigit}
use Rattle.luck_text.proofs.Cases.{any_of_three}
use Rattle.luck_text.proofs.scan.HexDigitClass.has.Goals as goal

pub returns : goal.returns
unfolding is_xdigit is_digit
returns c =
    rw (← c.is_between-digit.ensures, ← c.is_between-small.ensures, ← c.is_between-capital.ensures)
    (any_of_three c.is_between-digit.result c.is_between-small.result c.is_between-capital.result)
