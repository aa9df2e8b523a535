-- `luck_output::output::copy` meets its contract. Assumes nothing.
use mathlib.Core.Path.{◌≡◌, ap, ◌∙◌}
use Prim.Native.Nat.{ℕ, suc, ◌+◌}
use native.Mathlib.Omega.{arith}
use mathlib.Core.List.{List}
use lib.ListN.{take, set, get_or}
use lib.Seq.{sets}
use Rattle.luck_output.proofs.Outputs.{copied}
use Rattle.luck_output.proofs.output.copy.Goals as goal

pub loop-i-preserved : goal.loop-i-preserved
loop-i-preserved c =
    let a = c.args in
    let i = c.loop-i.i in
    let e : suc i ≡ i + 1 = omega arith in
    ap (λ (o : List ℕ). set o (a.at + i) (get_or a.bytes.now i 0)) c.loop-i.invariant ∙ copied a.bytes.now a.output.now a.at i c.loop-i-test.true
    ∙ ap (λ (n : ℕ). sets a.output.now a.at (take n a.bytes.now)) e
