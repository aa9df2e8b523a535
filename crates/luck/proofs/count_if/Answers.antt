-- `luck::count_if` meets its contract. Assumes nothing.
use Rattle.std.proofs.Common.{◌≡◌, ℕ, Bool, true, false, refl, ◌∙◌}
use Rattle.std.specs.Bool.{then_some}
use Rattle.luck_structs.specs.Answers.{count_if}
use Rattle.luck.proofs.count_if.Goals as goal

same : (known : Bool) (captures : ℕ) → then_some known captures ≡ count_if known captures
unfolding count_if
same true captures = refl
same false captures = refl

pub returns : goal.returns
returns c = c.then_some.ensures ∙ same c.args.known c.args.captures
