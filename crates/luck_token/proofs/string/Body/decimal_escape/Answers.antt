-- `luck_token::string::Body::decimal_escape` meets its contract.
use Prim.Native.Nat.{◌+◌}
use native.Mathlib.Omega.{arith}
use Rattle.luck_text.specs.Bytes.{is_digit}
use Rattle.luck_text.proofs.Bytes.{run_inside}
use Rattle.luck_token.proofs.Literals.{decimal_large, decimal_byte}
use Rattle.luck_token.proofs.string.Body.decimal_escape.Goals as goal

pub returns-in_default : goal.returns-in_default
returns-in_default c =
    let a = c.args in
    let d = c.digits-digits in
    record { is = decimal_large a.self.now.text.now a.at d.result.count d.result.value d.ensures.count d.ensures.value (omega (arith, c.in_default.ensures)); inside = tt }

pub returns : goal.returns
returns c =
    let a = c.args in
    let d = c.digits-digits in
    let v = c.in-Ok.ensures in
    record {
      is = rw v.1 (decimal_byte a.self.now.text.now a.at d.result.count d.result.value d.ensures.count d.ensures.value (omega (arith, v.0)));
      inside = (omega arith, omega (arith, d.ensures.count, run_inside is_digit a.self.now.text.now (a.at + 1) (omega arith)));
    }
