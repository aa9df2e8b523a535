-- `luck_token::string::Body::has_special` meets its contract. Assumes nothing.
use mathlib.Core.Path.{ap, ◌∙◌}
use mathlib.Core.Bool.{Bool}
use Prim.Native.Nat.{◌+◌}
use native.Mathlib.Omega.{arith}
use Rattle.luck_text.proofs.Cases.{present}
use Rattle.luck_token.specs.Inner.{plain}
use Rattle.luck_token.proofs.Literals.{plain_long, plain_short}
use Rattle.luck_token.proofs.string.Body.has_special.Goals as goal

pub returns-then-self : goal.returns-then-self
returns-then-self c =
    let body = c.args.self.now.text.now in
    λ e k l.
    ap (λ (t : Bool). plain t body k) c.if-self.true
    ∙ plain_long body k ((c.has_byte.ensures e k l))
    (λ _ cr. (c.has_byte.ensures e (k + 1) (present body (k + 1) (omega arith))) cr)

pub returns : goal.returns
returns c =
    let body = c.args.self.now.text.now in
    λ e k l. ap (λ (t : Bool). plain t body k) c.if-self.false ∙ plain_short body k ((c.has_byte-2.ensures e k l))
