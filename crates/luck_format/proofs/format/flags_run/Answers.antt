-- `luck_format::format::flags_run` meets its contract. Assumes nothing.
use mathlib.Core.Path.{ap, ◌∙◌}
use mathlib.Core.List.{List}
use Prim.Native.Nat.{ℕ}
use lib.ListN.{drop}
use Rattle.luck_text.specs.Bytes.{among, run}
use Rattle.luck_format.specs.Format.{flags_run}
use Rattle.luck_format.proofs.format.flags_run.Goals as goal

pub returns : goal.returns
unfolding flags_run
returns c = c.run.ensures ∙ ap (λ (set : List ℕ). run (λ b. among b set) (drop c.args.at c.args.text.now)) c.flags_for.ensures
