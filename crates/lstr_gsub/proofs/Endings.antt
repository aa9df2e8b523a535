-- Every trial, whatever it is given: its steps are at most its budget; 27 says that they are spent; and a kind from 1 to 10 goes with 29 only.
-- Assumes nothing.
use Prim.Native.Nat.{ℕ, ◌≤◌, zero-le}
use native.Mathlib.Omega.{arith}
use mathlib.Core.Path.{refl}
use mathlib.Core.List.{List, [], ◌∷◌}
use Rattle.luck_text.specs.Bytes.{among}
use Rattle.luck_token.specs.Version.{rules_of}
use Rattle.luck_replacement.specs.Replacement.{is_strict, pieces}
use Rattle.lstr_class.specs.Class.{class_of}
use Rattle.lstr_gsub.specs.Gsub.{writer_of, gsub}
use Rattle.lstr_laws.proofs.Endings.{Ending, HasStops, other, raising, attempt_ends}
use Rattle.lstr_gsub.proofs.Runs.{Fine, pieces_end, gsub_fine}

-- what a trial of gsub answers
abbrev pub gsub_numbers : List ℕ
gsub_numbers = 0 ∷ 25 ∷ 26 ∷ 27 ∷ 28 ∷ 29 ∷ []

stops : HasStops gsub_numbers
unfolding among
stops = record { spent = refl; too_deep = refl; raised = refl }

pub endings : (version : ℕ) (pat rep sub : List ℕ) (budget room : ℕ) → Fine (λ u. u ≤ budget) (Ending gsub_numbers budget) (gsub version pat rep sub budget room)
unfolding writer_of among
endings version pat rep sub budget room =
    gsub_fine (λ u. u ≤ budget) (Ending gsub_numbers budget) (λ cs. Unit {0}) version pat rep sub budget room zero-le
    (λ u h. other gsub_numbers budget 0 u refl (λ e. omega arith) (λ e. omega arith))
    (other gsub_numbers budget 25 0 refl (λ e. omega arith) (λ e. omega arith))
    (λ u h. other gsub_numbers budget 26 u refl (λ e. omega arith) (λ e. omega arith))
    (λ s e cs c u h out.
    pieces_end (λ number kind. Ending gsub_numbers budget number kind u) (other gsub_numbers budget 26 u refl (λ e. omega arith) (λ e. omega arith))
    (raises 6 u (omega arith) (omega arith)) (raises 9 u (omega arith) (omega arith)) (raises 10 u (omega arith) (omega arith))
    sub room s e cs (is_strict (rules_of version)) (pieces rep) out)
    (λ s u h. attempt_ends gsub_numbers stops budget (class_of version) sub pat 0 s u h)
    (λ t s u h. attempt_ends gsub_numbers stops budget (class_of version) sub pat 1 s u h)
  where
    raises : (kind u : ℕ) → 1 ≤ kind → kind ≤ 10 → Ending gsub_numbers budget 29 kind u
    raises kind u low high = raising gsub_numbers budget kind u stops.raised low high
