-- Where a set ends: its closing bracket lies in the pattern, behind its `[`.
-- Assumes nothing.
use Prim.Native.Nat.{ℕ, ◌≤◌, ◌<◌}
use native.Mathlib.Omega.{arith}
use mathlib.Core.Bool.{true}
use mathlib.Core.List.{List}
use lib.ListN.{length}
use Rattle.luck_text.proofs.Cases.{by_test}
use Rattle.luck_answer.proofs.Answers.{Stops, walk_every_from}
use Rattle.luck_pattern.specs.Reading.{
  Member,
  closing_bracket,
  escaped_member,
  cut_escape,
  byte_member,
  member_at,
  SetEnd,
  closes_at,
  cut_at,
  unclosed,
  member_by,
  member_turn,
  members_end,
  first_member,
  set_end,
}

module _ (pat : List ℕ) where
  -- it lies in the pattern, and not before a place
  abbrev pub ClosesFrom : ℕ → SetEnd → Type 0
  ClosesFrom from (closes_at e) = (from ≤ e) × (e < length pat)
  ClosesFrom from (cut_at e) = Unit {0}
  ClosesFrom from unclosed = Unit {0}

  member_closes : (from p : ℕ) → from ≤ p → p < length pat → (m : Member) → Stops (ClosesFrom from) (member_by m p)
  unfolding member_by
  member_closes from p f h closing_bracket = (f, h)
  member_closes from p f h escaped_member = tt
  member_closes from p f h cut_escape = tt
  member_closes from p f h byte_member = tt

  pub first_behind : (p : ℕ) → p < first_member pat p
  unfolding first_member
  first_behind p = by_test (λ (q : ℕ). p < q) _ _ _ (λ t. omega arith) (λ t. omega arith)

  pub set_closes : (p : ℕ) → ClosesFrom (first_member pat p) (set_end pat p)
  unfolding set_end member_turn members_end
  set_closes p =
      let from = first_member pat p in
      walk_every_from (member_turn pat) members_end from (length pat) (ClosesFrom from)
      (λ q first f h. member_closes from q f h (member_at pat first q)) (λ q first. tt) true
