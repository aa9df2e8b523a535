-- The answers of the check of a format.
-- Assumes nothing.
use Prim.Native.Nat.{ℕ, ◌+◌, ◌≤◌, ◌<◌}
use native.Mathlib.Omega.{arith}
use mathlib.Core.Path.{◌≡◌, refl}
use mathlib.Core.Bool.{Bool, true, false}
use mathlib.Core.List.{List}
use lib.ListN.{length, drop}
use lib.Dec.{eqb, ltb}
use borrow.Author.Tests.{ltb-true, leb-true, eqb-true, leb-false}
use Rattle.luck_text.specs.Bytes.{byte_at, among, is_digit, run}
use Rattle.luck_text.specs.Walk.{Turn}
use Rattle.luck_token.specs.declared.version.Rules.{Rules}
use Rattle.luck_text.proofs.Cases.{by_test, and_right, present}
use Rattle.luck_text.proofs.Bytes.{run_inside}
use Rattle.luck_answer.specs.Answer.{Answer}
use Rattle.luck_linter.specs.Checks.{format, numbers}
use Rattle.luck_format.specs.Format.{
  is_flag,
  Modifiers,
  end_at,
  fault,
  get_format,
  scan_precision,
  scan_width,
  scan_format,
  modifiers_at,
  good_modifiers,
  conversion_turn,
  specifier_turn,
  percent_turn,
  format_turn,
  format_end,
  format_walk,
}
use Rattle.luck_linter.proofs.Counts.{Counts, walk_counts, Walked}

module _ (text : List ℕ) where
  abbrev AnswerIn : Answer → Type 0
  AnswerIn answer = Walked (length text) (numbers format) answer

  abbrev FaultIn : Modifiers → Type 0
  FaultIn (end_at e) = Unit {0}
  FaultIn (fault answer) = AnswerIn answer

  abbrev TurnIn : ℕ → Turn ℕ Answer → Type 0
  TurnIn count turn = Counts (λ n. n) AnswerIn count turn

  there : (p x : ℕ) → 0 < x → eqb (byte_at text p) x ≡ true → p < length text
  there p x h e = present text p (omega (arith, eqb-true (byte_at text p) x e))

  module _ (p : ℕ) (h : p ≤ length text) where
    get_format_lem : FaultIn (get_format text p)
    unfolding get_format among
    get_format_lem = by_test FaultIn _ _ _ (λ _. (h, refl, omega arith)) (λ _. tt)

    scan_precision_lem : p < length text → FaultIn (scan_precision text p)
    unfolding scan_precision among
    scan_precision_lem l = by_test FaultIn _ _ _ (λ _. (omega arith, refl, omega arith)) (λ _. tt)

  scan_width_lem : (p : ℕ) → p ≤ length text → FaultIn (scan_width text p)
  unfolding scan_width among
  scan_width_lem p h =
      let dot = p + run is_digit (drop p text) in
      by_test FaultIn _ _ _ (λ _. (h, refl, omega arith)) (λ _. by_test FaultIn _ _ _ (λ e. scan_precision_lem dot (run_inside is_digit text p h) (there dot 46 (omega arith) e)) (λ _. tt))

  scan_format_lem : (p : ℕ) → p ≤ length text → FaultIn (scan_format text p)
  unfolding scan_format among
  scan_format_lem p h =
      let count = run is_flag (drop p text) in
      by_test FaultIn _ _ _ (λ e. (omega (arith, leb-true 6 count e, run_inside is_flag text p h), refl, omega arith)) (λ _. scan_width_lem (p + count) (run_inside is_flag text p h))

  modifiers : (is : Bool) (p : ℕ) → p ≤ length text → FaultIn (modifiers_at is text p)
  unfolding modifiers_at
  modifiers true p h = get_format_lem p h
  modifiers false p h = scan_format_lem p h

  module _ (rules : Rules) (p count : ℕ) where
    conversion : (e : ℕ) → p < length text → TurnIn count (conversion_turn rules text p count e)
    unfolding conversion_turn among
    conversion e h =
        let good = good_modifiers (byte_at text e) text (p + 1) in
        by_test (TurnIn count) _ _ _ (λ _. (omega arith, refl, omega arith))
        (λ l. by_test (TurnIn count) _ _ _ (λ _. (omega (arith, leb-false (length text) e l), refl, omega arith))
        (λ _. by_test (TurnIn count) _ _ _ (λ b. (omega (arith, leb-false (length text) e l, ltb-true good e (and_right rules.checked_format_modifiers (ltb good e) b)), refl, omega arith)) (λ _. omega arith)))

    specifier_in : (m : Modifiers) → FaultIn m → p < length text → TurnIn count (specifier_turn rules text p count m)
    unfolding specifier_turn
    specifier_in (end_at e) f h = conversion e h
    specifier_in (fault answer) f h = f

    percent : p < length text → TurnIn count (percent_turn rules text p count)
    unfolding percent_turn among
    percent h =
        by_test (TurnIn count) _ _ _ (λ _. (omega arith, refl, omega arith))
        (λ l. by_test (TurnIn count) _ _ _ (λ _. omega arith)
        (λ _. by_test (TurnIn count) _ _ _ (λ _. omega arith) (λ _. specifier_in _ (modifiers rules.checked_format_modifiers (p + 1) (omega (arith, leb-false (length text) (p + 1) l))) h)))

    step : p < length text → TurnIn count (format_turn rules text p count)
    unfolding format_turn
    step h = by_test (TurnIn count) _ _ _ (λ _. percent h) (λ _. omega arith)

  at_end : (p count : ℕ) → count ≤ length text → AnswerIn (format_end p count)
  unfolding format_end among
  at_end p count h = (omega arith, refl, h)

  pub format_bounded : (rules : Rules) → Walked (length text) (numbers format) (format_walk rules text)
  unfolding format_walk
  format_bounded rules = walk_counts (format_turn rules text) format_end (length text) (λ n. n) AnswerIn (step rules) at_end 0 refl
