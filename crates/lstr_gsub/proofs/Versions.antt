-- A trial under one of the six versions does not answer 25, so that 25 comes with nothing else.
-- Assumes nothing.
use Prim.Native.Nat.{ℕ, ◌≤◌, zero-le}
use native.Mathlib.Omega.{arith}
use mathlib.Core.Path.{◌≡◌, refl, sym, subst, ◌∙◌}
use mathlib.Core.Bool.{true, true≢false}
use mathlib.Core.List.{List, [], ◌∷◌}
use Rattle.luck_text.specs.Bytes.{among}
use Rattle.luck_text.proofs.Cases.{by_test}
use Rattle.luck_token.specs.Version.{is_version, rules_of}
use Rattle.luck_replacement.specs.Replacement.{is_strict, pieces}
use Rattle.lstr_class.specs.Class.{class_of}
use Rattle.lstr_laws.proofs.Endings.{Ending, HasStops, other, raising, attempt_ends}
use Rattle.lstr_gsub.specs.Gsub.{TrialResult, result, writer_of, gsub}
use Rattle.lstr_gsub.proofs.Runs.{pieces_keep, run_keeps}

abbrev known_numbers : List ℕ
known_numbers = 0 ∷ 26 ∷ 27 ∷ 28 ∷ 29 ∷ []

stops : HasStops known_numbers
unfolding among
stops = record { spent = refl; too_deep = refl; raised = refl }

not_25 : (number : ℕ) → among number known_numbers ≡ true → number ≡ 25 → ⊥
unfolding among
not_25 number m e = true≢false (sym m ∙ subst (λ (n : ℕ). among n known_numbers ≡ among 25 known_numbers) (sym e) refl)

module _ (version : ℕ) (pat rep sub : List ℕ) (budget room : ℕ) where
  abbrev Ends : ℕ → ℕ → ℕ → List ℕ → Type 0
  Ends number kind u out = Ending known_numbers budget number kind u

  raises : (kind u : ℕ) → 1 ≤ kind → kind ≤ 10 → Ending known_numbers budget 29 kind u
  raises kind u low high = raising known_numbers budget kind u stops.raised low high

  full : (u : ℕ) → Ending known_numbers budget 26 0 u
  unfolding among
  full u = other known_numbers budget 26 u refl (λ e. omega arith) (λ e. omega arith)

  pub with_25 : (gsub version pat rep sub budget room).number ≡ 25 → gsub version pat rep sub budget room ≡ result 25 0 [] 0 0
  unfolding gsub writer_of among
  with_25 =
      by_test (λ (a : TrialResult). a.number ≡ 25 → a ≡ result 25 0 [] 0 0) (is_version version) _ _
      (λ t e.
      let kept =
      run_keeps (λ u out. u ≤ budget) Ends (λ cs. Unit {0}) room (λ u out b r h. h)
      (λ u out h. other known_numbers budget 0 u refl (λ e. omega arith) (λ e. omega arith)) (λ u out r h. full u) sub (writer_of version rep sub room)
      (λ s e cs c u out h.
      pieces_keep (λ now. u ≤ budget) (λ number kind now. (u ≤ budget) × Ends number kind u now) room (λ now b r g. g) (λ now r g. (g, full u))
      (λ now g. (g, raises 6 u (omega arith) (omega arith))) (λ now g. (g, raises 9 u (omega arith) (omega arith))) (λ now g. (g, raises 10 u (omega arith) (omega arith)))
      sub s e cs (is_strict (rules_of version)) (pieces rep) out h)
      (class_of version) budget pat zero-le (λ s u out h. attempt_ends known_numbers stops budget (class_of version) sub pat 0 s u h)
      (λ t s u out h. attempt_ends known_numbers stops budget (class_of version) sub pat 1 s u h) in
      absurd (not_25 _ kept.ending.numbered e))
      (λ t e. refl)
