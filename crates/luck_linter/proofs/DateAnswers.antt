-- The answers of the check of a date.
-- Assumes nothing.
use Prim.Native.Nat.{ℕ, ◌+◌, ◌≤◌, ◌<◌}
use native.Mathlib.Omega.{arith}
use mathlib.Core.Path.{refl}
use mathlib.Core.Bool.{Bool}
use mathlib.Core.List.{List}
use lib.ListN.{length}
use borrow.Author.Tests.{leb-false}
use Rattle.luck_text.specs.Bytes.{among}
use Rattle.luck_text.specs.Walk.{Turn}
use Rattle.luck_text.proofs.Cases.{by_test}
use Rattle.luck_answer.specs.Answer.{Answer}
use Rattle.luck_linter.specs.Checks.{date, numbers}
use Rattle.luck_format.specs.Date.{date_turn, date_end, conversions_walk, date_walk}
use Rattle.luck_linter.proofs.Counts.{Counts, walk_counts, Walked}

module _ (text : List ℕ) where
  abbrev AnswerIn : Answer → Type 0
  AnswerIn answer = Walked (length text) (numbers date) answer

  abbrev TurnIn : Turn (Unit {0}) Answer → Type 0
  TurnIn turn = Counts (λ _. 0) AnswerIn 0 turn

  module _ (options : Bool) where
    step : (p : ℕ) (u : Unit {0}) → p < length text → TurnIn (date_turn options text p u)
    unfolding date_turn among
    step p u h =
        by_test TurnIn _ _ _ (λ _. omega arith)
        (λ _. by_test TurnIn _ _ _ (λ _. by_test TurnIn _ _ _ (λ _. (omega arith, refl, omega arith)) (λ _. omega arith))
        (λ l. by_test TurnIn _ _ _ (λ _. (omega (arith, leb-false (length text) (p + 1) l), refl, omega arith)) (λ _. omega arith)))

    at_end : (p : ℕ) (u : Unit {0}) → 0 ≤ length text → AnswerIn (date_end p u)
    unfolding date_end among
    at_end p u h = (omega arith, refl, omega arith)

    conversions : AnswerIn (conversions_walk options text)
    unfolding conversions_walk
    conversions = walk_counts (date_turn options text) date_end (length text) (λ _. 0) AnswerIn step at_end tt refl

    pub date_bounded : (checked : Bool) → Walked (length text) (numbers date) (date_walk checked options text)
    unfolding date_walk among
    date_bounded checked = by_test AnswerIn _ _ _ (λ _. (omega arith, refl, omega arith)) (λ _. conversions)
