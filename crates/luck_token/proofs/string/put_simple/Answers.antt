-- `luck_token::string::put_simple` meets its contract. Assumes nothing.
use mathlib.Core.Path.{ap, ◌∙◌}
use Prim.Native.Nat.{ℕ}
use native.Mathlib.Omega.{arith}
use mathlib.Core.List.{[], ◌∷◌}
use Rattle.luck_output.specs.Output.{stores}
use Rattle.luck_output.proofs.Outputs.{stores_fit, stores_none}
use Rattle.luck_token.specs.Literal.{simple_escape}
use Rattle.luck_token.proofs.string.put_simple.Goals as goal

pub returns-then-at-output : goal.returns-then-at-output
returns-then-at-output c =
    let a = c.args in
    stores_fit a.output.now a.at (c.simple_escape.result ∷ []) (omega arith)
    ∙ ap (λ (b : ℕ). stores a.output.now a.at (b ∷ [])) c.simple_escape.ensures

pub returns-else-at-output : goal.returns-else-at-output
returns-else-at-output c = let a = c.args in stores_none a.output.now a.at (simple_escape a.byte ∷ []) (omega arith)
