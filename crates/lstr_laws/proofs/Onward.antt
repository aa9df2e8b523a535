-- What `Forward` says of an outcome: a match ends at b or behind it, and a match or a failure has taken at least w steps, within the budget.
use Prim.Native.Nat.{ℕ, ◌≤◌}
use mathlib.Core.Bool.{Bool}
use mathlib.Core.List.{List}
use Rattle.lstr_item.specs.Match.{Outcome, matched, failed, stopped}

module _ (in_class : ℕ → ℕ → Bool) (sub : List ℕ) (budget : ℕ) (b w : ℕ) where
  -- steps from w on, within the budget
  abbrev pub U : ℕ → Type 0
  U u = (w ≤ u) × (u ≤ budget)

  abbrev pub Ends : Outcome → Type 0
  Ends (matched e cs u) = (b ≤ e) × U u
  Ends (failed u) = U u
  Ends (stopped number kind u) = Unit {0}

  -- wrapped, so that the outcome it is said of can be read off
  pub record Onward (o : Outcome) : Type 0 where
    pub ends : Ends o
