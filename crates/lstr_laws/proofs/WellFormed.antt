-- Items that are well formed, with the captures before them: what `Accepted` says of a pattern, and what `Sound` asks for.
use Rattle.std.specs.Prelude.{Some}
use Prim.Native.Nat.{ℕ, ◌<◌}
use mathlib.Core.Path.{◌≡◌}
use mathlib.Core.Bool.{Bool, true, false}
use mathlib.Core.List.{List, [], ◌∷◌, ◌++◌}
use lib.ListN.{length}
use Rattle.luck_pattern.specs.Captures.{close_latest, is_closed, all_closed}
use Rattle.luck_pattern.specs.Items.{
  Item,
  start_capture,
  position_capture,
  end_capture,
  end_anchor,
  balance,
  frontier,
  back_reference,
  single,
  raises,
}

-- n captures, all of them closed
pub record AllClosed (n : ℕ) (flags : List Bool) : Type 0 where
  pub count : length flags ≡ n
  pub closed : all_closed flags ≡ true

-- the items are well formed after captures of which these are closed, and end with n captures, all of them closed
abbrev pub WellFormed : List Item → List Bool → ℕ → Type 0
WellFormed [] flags n = AllClosed n flags
WellFormed (start_capture ∷ is) flags n = (length flags < 32) × WellFormed is (flags ++ (false ∷ [])) n
WellFormed (position_capture ∷ is) flags n = (length flags < 32) × WellFormed is (flags ++ (true ∷ [])) n
WellFormed (end_capture ∷ is) flags n = (after : List Bool) × (close_latest flags ≡ Some after) × WellFormed is after n
WellFormed (end_anchor ∷ is) flags n = AllClosed n flags
WellFormed (balance x y ∷ is) flags n = WellFormed is flags n
WellFormed (frontier x ∷ is) flags n = WellFormed is flags n
WellFormed (back_reference d ∷ is) flags n = (is_closed flags d ≡ true) × WellFormed is flags n
WellFormed (single x r ∷ is) flags n = WellFormed is flags n
WellFormed (raises kind ∷ is) flags n = ⊥
