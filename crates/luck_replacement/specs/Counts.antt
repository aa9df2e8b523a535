-- Which replacements are accepted where the pattern's count of captures is known within a range (F-7 of document 02):
-- by the check for each single count in it.
-- Assumes nothing.
use Rattle.std.specs.Prelude.{ℕ, zero, suc, ◌+◌, ◌-◌, max, Bool, true, Option, None, Some}
use Rattle.std.specs.Prelude.{false, not, ◌&&◌, List, [], ◌∷◌, eqb, leb, ltb}
use Rattle.luck_text.specs.Bytes.{when◌then◌else◌}
use Rattle.luck_token.specs.Version.{is_version}
use Rattle.luck_answer.specs.Answer.{Answer, accepted, refused}
use Rattle.luck_replacement.specs.Replacement.{Piece, literal, digit, percent, other, lone, check_replacement}

-- what is known of the count of captures: nothing, or its lowest and its highest number
pub data Counts : Type 0 where
  unknown : Counts
  from_to : ℕ → ℕ → Counts

-- accepted for every count; refused for every one, with the refusal of the lowest; or dependent on it, with the
-- smallest count for which it is accepted
pub data Ranged : Type 0 where
  for_every : Ranged
  for_none : Answer → Ranged
  depends : ℕ → Ranged

unfoldable pub is_accepted : Answer → Bool
is_accepted answer = eqb answer.number 0

-- one answer, where there is one count or none is known
unfoldable pub alone : Answer → Ranged
alone answer = when is_accepted answer then for_every else for_none answer

-- `check` gives the answer for one count; the range has n counts, the first of which is `low`
module _ (check : ℕ → Answer) where
  unfoldable pub accepted_for_all : ℕ → ℕ → Bool
  accepted_for_all zero low = true
  accepted_for_all (suc n) low = is_accepted (check low) && accepted_for_all n (low + 1)

  unfoldable pub smallest_accepted : ℕ → ℕ → Option ℕ
  smallest_accepted zero low = None
  smallest_accepted (suc n) low =
      let later = smallest_accepted n (low + 1) in
      when is_accepted (check low) then Some low else later

  unfoldable pub refused_or_depends : ℕ → Option ℕ → Ranged
  refused_or_depends low None = for_none (check low)
  refused_or_depends low (Some count) = depends count

  unfoldable pub for_counts : ℕ → ℕ → Ranged
  for_counts n low = when accepted_for_all n low then for_every else refused_or_depends low (smallest_accepted n low)

  -- for each count from `low` to `high`
  unfoldable pub for_range : ℕ → ℕ → Ranged
  for_range low high = for_counts (high + 1 - low) low

-- 25, then 35, then the text for each count
unfoldable pub check_ranged : ℕ → Counts → List ℕ → Ranged
check_ranged version unknown text = alone (check_replacement version None text)
check_ranged version (from_to low high) text =
    let each = for_range (λ count. check_replacement version (Some count) text) low high in
    when not (is_version version) then for_none (refused 25 0) else when ltb high low then for_none (refused 35 0) else each

-- what the answer's record shows: where it is dependent, a flag, number 0 and the smallest count
unfoldable pub ranged_answer : Ranged → Answer
ranged_answer for_every = accepted 0
ranged_answer (for_none answer) = answer
ranged_answer (depends smallest) = accepted smallest

unfoldable pub is_dependent : Ranged → Bool
is_dependent for_every = false
is_dependent (for_none answer) = false
is_dependent (depends smallest) = true

-- a count of the range is accepted, as the answer says
unfoldable pub accepts : Ranged → ℕ → Bool
accepts for_every count = true
accepts (for_none answer) count = false
accepts (depends smallest) count = leb smallest count

-- ---- In one walk

-- the largest digit after a `%`, 0 where there is none
unfoldable pub largest_digit : List Piece → ℕ
largest_digit [] = 0
largest_digit (literal b ∷ more) = largest_digit more
largest_digit (digit d ∷ more) = max d (largest_digit more)
largest_digit (percent ∷ more) = largest_digit more
largest_digit (other c ∷ more) = largest_digit more
largest_digit (lone ∷ more) = largest_digit more

-- by the answers for the lowest and for the highest count and the largest digit
unfoldable pub by_ends : Answer → Answer → ℕ → Ranged
by_ends lowest highest largest =
    when is_accepted lowest then for_every
    else when is_accepted highest then depends largest else for_none lowest
