-- What is promised of the trial of gsub: demand 3, and then its part of demand 1. `gsub` and `output_after` are in specs/Gsub.antt, the checks in the specs of
-- luck_pattern and luck_replacement.
-- Assumes nothing.
use Rattle.std.specs.Prelude.{Some}
use Prim.Native.Nat.{ℕ, ◌≤◌}
use native.Mathlib.Omega.{arith}
use mathlib.Core.Path.{◌≡◌, ap}
use mathlib.Core.Bool.{Bool, true, false}
use mathlib.Core.List.{List, [], ◌∷◌}
use lib.ListN.{length}
use Rattle.luck_text.specs.Bytes.{when◌then◌else◌, among}
use Rattle.luck_text.proofs.Bytes.{front_length}
use Rattle.luck_token.specs.Version.{is_version, rules_of}
use Rattle.luck_answer.specs.Answer.{accepted}
use Rattle.luck_pattern.specs.Pattern.{check_pattern_as}
use Rattle.luck_replacement.specs.Replacement.{is_strict, check_replacement}
use Rattle.lstr_class.specs.Class.{class_of}
use Rattle.lstr_gsub.specs.Gsub.{result, output_after, str_gsub, gsub}
use Rattle.lstr_gsub.proofs.Writings.{walk_accepted, strict_accepted, writers_alike}
use Rattle.lstr_gsub.proofs.Quiet.{quiet}
use Rattle.lstr_gsub.proofs.Endings.{endings}
use Rattle.lstr_gsub.proofs.Room.{trial_within}
use Rattle.lstr_gsub.proofs.Versions.{with_25}

-- ---- A pattern accepted, with or without the test of ranges, under some version v with its count n, and a replacement accepted for that count under a version w other than 5.1

module _ (ranges : Bool) (v w n k : ℕ) (pat rep : List ℕ)
    (pattern_accepted : check_pattern_as ranges v pat ≡ accepted n)
    (replacement_accepted : check_replacement w (Some n) rep ≡ accepted k)
    (not_51 : w ≡ 1 → ⊥) where
  -- the trials under any two of the six versions give the same answer, whole,
  pub same_answer : (sub output : List ℕ) (budget a b : ℕ) → is_version a ≡ true → is_version b ≡ true
      → gsub a pat rep sub budget (length output) ≡ gsub b pat rep sub budget (length output)
  unfolding gsub class_of when◌then◌else◌
  same_answer sub output budget a b i j =
      let alike = writers_alike (Some n) k rep sub (length output) a b (strict_accepted w (Some n) rep k replacement_accepted not_51) in
      rw (i, j) (ap (λ write. str_gsub (class_of a) sub budget (length output) write pat) alike)

  -- and leave the same bytes in the whole output,
  pub same_output : (sub output : List ℕ) (budget a b : ℕ) → is_version a ≡ true → is_version b ≡ true
      → output_after output (gsub a pat rep sub budget (length output)) ≡ output_after output (gsub b pat rep sub budget (length output))
  same_output sub output budget a b i j = ap (output_after output) (same_answer sub output budget a b i j)

  -- and none raises
  pub none_raises : (sub output : List ℕ) (budget version : ℕ) → (gsub version pat rep sub budget (length output)).number ≡ 29 → ⊥
  none_raises sub output budget version =
      quiet ranges v version n k true pat rep sub budget (length output) pattern_accepted
      (strict_accepted w (Some n) rep k replacement_accepted not_51) (λ e. absurd_flag e)
    where
      absurd_flag : true ≡ false → is_strict (rules_of version) ≡ false
      absurd_flag e = let z : ◌≡◌ {A = ℕ} 0 1 = cc in absurd (omega arith)

-- ---- With a replacement accepted under 5.1, the trial under 5.1 never raises

pub never_raises_51 : (ranges : Bool) (v n k : ℕ) (pat rep sub output : List ℕ) (budget : ℕ)
    → check_pattern_as ranges v pat ≡ accepted n
    → check_replacement 1 (Some n) rep ≡ accepted k
    → (gsub 1 pat rep sub budget (length output)).number ≡ 29
    → ⊥
never_raises_51 ranges v n k pat rep sub output budget ok rok =
    quiet ranges v 1 n k (is_strict (rules_of 1)) pat rep sub budget (length output) ok (walk_accepted 1 (Some n) rep k rok) (λ e. e)

-- ---- Every trial, whatever it is given and however it ends

module _ (version : ℕ) (pat rep sub : List ℕ) (budget room : ℕ) where
  -- reports no more steps than its budget,
  pub steps_within : (gsub version pat rep sub budget room).steps ≤ budget
  steps_within = (endings version pat rep sub budget room).steps

  -- all of it where a step was due with none left,
  pub spent_exactly : (gsub version pat rep sub budget room).number ≡ 27 → (gsub version pat rep sub budget room).steps ≡ budget
  spent_exactly = (endings version pat rep sub budget room).ending.spent

  -- one of these numbers: 23 is never given,
  pub numbers : among (gsub version pat rep sub budget room).number (0 ∷ 25 ∷ 26 ∷ 27 ∷ 28 ∷ 29 ∷ []) ≡ true
  numbers = (endings version pat rep sub budget room).ending.numbered

  -- a kind from 1 to 10 with 29,
  pub kind_of_raised : (gsub version pat rep sub budget room).number ≡ 29
      → (1 ≤ (gsub version pat rep sub budget room).kind) × ((gsub version pat rep sub budget room).kind ≤ 10)
  kind_of_raised = (endings version pat rep sub budget room).ending.kinded

  -- kind 0 with any other number,
  pub kind_of_others : ((gsub version pat rep sub budget room).number ≡ 29 → ⊥) → (gsub version pat rep sub budget room).kind ≡ 0
  kind_of_others = (endings version pat rep sub budget room).ending.kindless

  -- and no more bytes written than there is room for,
  pub written_within : length (gsub version pat rep sub budget room).written ≤ room
  written_within = (trial_within budget room version pat rep sub).kept.1

  -- all of it where a byte was due and the output was full
  pub filled_exactly : (gsub version pat rep sub budget room).number ≡ 26 → length (gsub version pat rep sub budget room).written ≡ room
  filled_exactly = (trial_within budget room version pat rep sub).ending

  -- 25 comes with nothing written, no replacement and no step,
  pub nothing_with_25 : (gsub version pat rep sub budget room).number ≡ 25 → gsub version pat rep sub budget room ≡ result 25 0 [] 0 0
  nothing_with_25 = with_25 version pat rep sub budget room

  -- and in any case the output keeps its length
  pub length_kept : (output : List ℕ) → length output ≡ room → length (output_after output (gsub version pat rep sub budget room)) ≡ length output
  length_kept output e = front_length (gsub version pat rep sub budget room).written output (omega (arith, written_within))
