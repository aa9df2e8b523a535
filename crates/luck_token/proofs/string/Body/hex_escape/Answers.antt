-- `luck_token::string::Body::hex_escape` meets its contract.
use mathlib.Core.Path.{sym, ap₂, ◌∙◌}
use mathlib.Core.List.{[], ◌∷◌}
use Prim.Native.Nat.{ℕ, ◌+◌, ◌*◌}
use native.Mathlib.Omega.{arith}
use Rattle.luck_token.specs.Literal.{piece}
use Rattle.luck_token.proofs.Literals.{hex_cut, hex_first, hex_second, hex_byte}
use Rattle.luck_token.proofs.string.Body.hex_escape.Goals as goal

pub returns-then-self-at-lt4 : goal.returns-then-self-at-lt4
returns-then-self-at-lt4 c = let a = c.args in record { is = hex_cut a.self.now.text.now a.at (omega arith); inside = tt }

pub returns-then-not-has : goal.returns-then-not-has
returns-then-not-has c =
    let a = c.args in
    record { is = hex_first a.self.now.text.now a.at (sym c.has.ensures ∙ c.if-not-has.true); inside = tt }

pub returns-then-not-has-2 : goal.returns-then-not-has-2
returns-then-not-has-2 c =
    let a = c.args in
    record { is = hex_second a.self.now.text.now a.at (sym c.has-2.ensures ∙ c.if-not-has-2.true); inside = tt }

pub returns : goal.returns
returns c =
    let a = c.args in
    let l = c.if-self-at-lt4.false in
    record {
      is = ap₂ (λ (x y : ℕ). piece ((x * 16 + y) ∷ []) 4) c.hex_value.ensures.0 c.hex_value-2.ensures.0 ∙ hex_byte a.self.now.text.now a.at (omega arith) (sym c.has.ensures ∙ c.if-not-has.false) (sym c.has-2.ensures ∙ c.if-not-has-2.false);
      inside = (omega arith, omega arith);
    }
