-- `luck_token::string::Body::is_plain` meets its contract. Assumes nothing.
use mathlib.Core.Path.{sym, ap, ◌∙◌}
use mathlib.Core.Bool.{Bool, not}
use Prim.Native.Nat.{ℕ}
use lib.Dec.{eqb}
use Rattle.luck_token.specs.Inner.{plain}
use Rattle.luck_token.proofs.Literals.{plain_lf, plain_other}
use Rattle.luck_token.proofs.string.Body.is_plain.Goals as goal

pub returns-then-byte-eq10 : goal.returns-then-byte-eq10
returns-then-byte-eq10 c =
    let a = c.args in
    ap (λ (b : ℕ). not (eqb b 13)) c.byte_at.ensures ∙ plain_lf a.self.now.text.now a.at c.if-byte-eq10.true
    ∙ ap (λ (l : Bool). plain l a.self.now.text.now a.at) (sym (c.if-not-self.false))

pub returns : goal.returns
returns c =
    let a = c.args in
    plain_other a.self.now.text.now a.at c.if-byte-eq10.false
    ∙ ap (λ (l : Bool). plain l a.self.now.text.now a.at) (sym (c.if-not-self.false))
