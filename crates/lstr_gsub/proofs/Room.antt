-- Every trial, whatever it is given: it writes no more than the room, and 26 says that the room is full.
-- Assumes nothing.
use Prim.Native.Nat.{ℕ, ◌≤◌, ◌<◌}
use native.Mathlib.Omega.{arith}
use mathlib.Core.Path.{◌≡◌, refl, sym, subst, ◌∙◌}
use mathlib.Core.Bool.{true, true≢false}
use mathlib.Core.List.{List, [], ◌∷◌, ◌++◌}
use lib.ListN.{length, length-append}
use Rattle.luck_text.specs.Bytes.{among}
use Rattle.luck_pattern.specs.Items.{items}
use Rattle.luck_token.specs.Version.{rules_of}
use Rattle.luck_replacement.specs.Replacement.{is_strict, pieces}
use Rattle.lstr_class.specs.Class.{class_of}
use Rattle.lstr_item.specs.Match.{Outcome, matched, failed, stopped, match}
use Rattle.lstr_laws.proofs.Attempts.{AttemptFine}
use Rattle.lstr_laws.proofs.Endings.{Ending, HasStops, attempt_ends}
use Rattle.lstr_gsub.specs.Gsub.{writer_of, gsub}
use Rattle.lstr_gsub.proofs.Runs.{Kept, pieces_keep, gsub_keeps}

-- what an attempt stops with: not 26
abbrev attempt_numbers : List ℕ
attempt_numbers = 27 ∷ 28 ∷ 29 ∷ []

stops : HasStops attempt_numbers
unfolding among
stops = record { spent = refl; too_deep = refl; raised = refl }

not_full : (number : ℕ) → among number attempt_numbers ≡ true → number ≡ 26 → ⊥
unfolding among
not_full number m e = true≢false (sym m ∙ subst (λ (n : ℕ). among n attempt_numbers ≡ among 26 attempt_numbers) (sym e) refl)

module _ (budget room : ℕ) where
  abbrev Within : ℕ → List ℕ → Type 0
  Within steps written = (steps ≤ budget) × (length written ≤ room)

  abbrev Full : ℕ → ℕ → ℕ → List ℕ → Type 0
  Full number kind steps written = number ≡ 26 → length written ≡ room

  attempt_within : (out : List ℕ) → length out ≤ room → (o : Outcome) → AttemptFine (λ u. u ≤ budget) (Ending attempt_numbers budget) (λ cs. Unit {0}) o
      → AttemptFine (λ u. Within u out) (λ number kind u. Full number kind u out) (λ cs. Unit {0}) o
  attempt_within out h (matched e cs u) p = ((p.0, h), tt)
  attempt_within out h (failed u) p = (p, h)
  attempt_within out h (stopped number kind u) p = ((p.0, h), λ e. absurd (not_full number p.1.numbered e))

  pub trial_within : (version : ℕ) (pat rep sub : List ℕ) → Kept Within Full (gsub version pat rep sub budget room)
  unfolding writer_of
  trial_within version pat rep sub =
      gsub_keeps Within Full (λ cs. Unit {0}) room grows (λ u out h e. absurd (omega arith)) full version pat rep sub budget
      (omega arith) (λ e. absurd (omega arith))
      (λ s e cs c u out h.
      pieces_keep (Within u) (λ number kind now. Within u now × Full number kind u now) room (grows u) (λ now r g. (g, full u now r g))
      (λ now g. (g, λ e. absurd (omega arith))) (λ now g. (g, λ e. absurd (omega arith))) (λ now g. (g, λ e. absurd (omega arith)))
      sub s e cs (is_strict (rules_of version)) (pieces rep) out h)
      (λ s u out h. attempt 0 s u out h) (λ t s u out h. attempt 1 s u out h)
    where
      grows : (u : ℕ) (out : List ℕ) (b : ℕ) → length out < room → Within u out → Within u (out ++ (b ∷ []))
      grows u out b r h = (h.0, omega (arith, length-append out (b ∷ [])))

      attempt : (p s u : ℕ) (out : List ℕ) → Within u out
          → AttemptFine (λ v. Within v out) (λ number kind v. Full number kind v out) (λ cs. Unit {0}) (match (class_of version) sub budget (items pat p) s 1 [] u)
      attempt p s u out h =
          attempt_within out h.1 (match (class_of version) sub budget (items pat p) s 1 [] u) (attempt_ends attempt_numbers stops budget (class_of version) sub pat p s u h.0)

      full : (u : ℕ) (out : List ℕ) → room ≤ length out → Within u out → Full 26 0 u out
      full u out r h e = omega (arith, h.1)
