-- `luck_token::string::Body::plain_blocks` meets its contract.
use mathlib.Core.Path.{◌≡◌, ap, ◌∙◌}
use mathlib.Core.Bool.{Bool, true}
use Prim.Native.Nat.{ℕ, ◌+◌, ◌-◌, ◌≤◌, ◌<◌}
use native.Mathlib.Omega.{arith}
use Rattle.luck_text.specs.Bytes.{byte_at}
use mathlib.Core.List.{List}
use mathlib.Core.Logic.{⊎_elim}
use Rattle.luck_text.proofs.Cases.{order}
use Rattle.luck_token.specs.Inner.{plain}
use Rattle.luck_token.proofs.Literals.{plain_long, plain_short}
use Rattle.luck_token.proofs.string.Body.plain_blocks.Goals as goal

-- up to an end: every byte before it is no CR, and neither is the one at it where an LF stands before it
module _ (body : List ℕ) (long : Bool) (at last : ℕ) where
  pieces : long ≡ true → ((k : ℕ) → at ≤ k → k < last → byte_at body k ≡ 13 → ⊥) → (end : ℕ) → end ≤ last
      → ((k : ℕ) → k + 1 ≡ last → k < end → byte_at body k ≡ 10 → ⊥) → (k : ℕ) → at ≤ k → k < end → plain long body k ≡ true
  pieces t none end h at_last k l m =
      ap (λ (t : Bool). plain t body k) t
      ∙ plain_long body k (none k l (omega arith))
      (λ lf cr. ⊎_elim (λ inside. none (k + 1) (omega arith) inside cr) (λ at_end. at_last k (omega arith) m lf) (order (k + 1) last))

pub returns-then-not-self : goal.returns-then-not-self
returns-then-not-self c =
    let e = c.blocks_end.ensures in
    let a = c.args in (
      e.0,
      e.1,
      λ k l m. ap (λ (t : Bool). plain t a.self.now.text.now k) (c.if-not-self.true) ∙ plain_short a.self.now.text.now k ((e.2 k l m)),
    )

pub returns-then-self-end-eq10 : goal.returns-then-self-end-eq10
returns-then-self-end-eq10 c =
    let a = c.args in
    let e = c.blocks_end-end.ensures in (
      omega arith,
      omega (arith, e.1),
      pieces a.self.now.text.now a.self.now.long a.at c.blocks_end-end.result c.if-not-self.false e.2 _ (omega arith) (λ k f m. absurd (omega arith)),
    )

pub returns-else-self-end-eq10 : goal.returns-else-self-end-eq10
returns-else-self-end-eq10 c =
    let a = c.args in
    let e = c.blocks_end-end.ensures in
    let at_last : (k : ℕ) → k + 1 ≡ c.blocks_end-end.result → byte_at a.self.now.text.now (c.blocks_end-end.result - 1) ≡ byte_at a.self.now.text.now k
    = λ k f. let q : c.blocks_end-end.result - 1 ≡ k = omega arith in ap (byte_at a.self.now.text.now) q in (
      e.0,
      e.1,
      pieces a.self.now.text.now a.self.now.long a.at c.blocks_end-end.result c.if-not-self.false e.2 c.blocks_end-end.result (omega arith)
          (λ k f m lf. c.if-self-end-eq10.false (at_last k f ∙ lf)),
    )
