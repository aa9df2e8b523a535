-- `lstr_item::item::repeated` meets its contract. Assumes nothing.
use native.Mathlib.Omega.{arith}
use mathlib.Core.Path.{ap}
use Rattle.luck_text.specs.Bytes.{byte_at}
use Rattle.lstr_item.specs.Inner.{repeat_read}
use Rattle.lstr_item.proofs.Reading.{of_optional, of_star, of_plus, of_minus, of_once, of_end}
use Rattle.lstr_item.proofs.item.repeated.Goals as goal

pub returns-in-63 : goal.returns-in-63
returns-in-63 c = let a = c.args in ap (repeat_read a.suffix) (of_optional (byte_at a.pattern.now a.suffix) c.in-63.is)

pub returns-in-42 : goal.returns-in-42
returns-in-42 c = let a = c.args in ap (repeat_read a.suffix) (of_star (byte_at a.pattern.now a.suffix) c.in-42.is)

pub returns-in-43 : goal.returns-in-43
returns-in-43 c = let a = c.args in ap (repeat_read a.suffix) (of_plus (byte_at a.pattern.now a.suffix) c.in-43.is)

pub returns-in-45 : goal.returns-in-45
returns-in-45 c = let a = c.args in ap (repeat_read a.suffix) (of_minus (byte_at a.pattern.now a.suffix) c.in-45.is)

pub returns-in_default : goal.returns-in_default
returns-in_default c =
    let a = c.args in
    ap (repeat_read a.suffix) (of_once (byte_at a.pattern.now a.suffix) (λ e. omega arith) (λ e. omega arith) (λ e. omega arith) (λ e. omega arith))

pub returns : goal.returns
returns c = let a = c.args in ap (repeat_read a.suffix) (of_end a.pattern.now a.suffix c.if-suffix-pattern.false)
