-- What `Endings` says of how an attempt ends, and a trial. `numbers` are those of a trial that attempts are made for: what an attempt stops with, and the
-- trial's own.
use Prim.Native.Nat.{ℕ, ◌≤◌}
use mathlib.Core.Path.{◌≡◌}
use mathlib.Core.Bool.{true}
use mathlib.Core.List.{List}
use Rattle.luck_text.specs.Bytes.{among}

pub record Ending (numbers : List ℕ) (budget number kind steps : ℕ) : Type 0 where
  pub numbered : among number numbers ≡ true
  pub spent : number ≡ 27 → steps ≡ budget
  pub kinded : number ≡ 29 → (1 ≤ kind) × (kind ≤ 10)
  pub kindless : (number ≡ 29 → ⊥) → kind ≡ 0

-- what an attempt stops with is among a trial's numbers
pub record HasStops (numbers : List ℕ) : Type 0 where
  pub spent : among 27 numbers ≡ true
  pub too_deep : among 28 numbers ≡ true
  pub raised : among 29 numbers ≡ true
