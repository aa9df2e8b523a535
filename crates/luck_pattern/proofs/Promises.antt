-- What is promised of the check of patterns with its test of ranges (F-10 of document 02). `check_pattern` has the test; `check_pattern_as false` is the
-- check without it, which is document 01's. The words are those of specs/Ranges.antt.
-- Assumes nothing.
use Rattle.std.specs.Prelude.{None}
use Prim.Native.Nat.{ℕ}
use mathlib.Core.Path.{◌≡◌}
use mathlib.Core.Logic.{◌⊎◌, ◌↔◌}
use mathlib.Core.Bool.{true, false}
use mathlib.Core.List.{List}
use Rattle.luck_token.specs.Version.{is_version}
use Rattle.luck_utf8.specs.Utf8.{ill_formed}
use Rattle.luck_answer.specs.Answer.{accepted, refused}
use Rattle.luck_pattern.specs.Pattern.{check_pattern_as, check_pattern}
use Rattle.luck_pattern.specs.Items.{read_item}
use Rattle.luck_pattern.specs.Ranges.{item_reversed, UpwardsItem, item_of, RangeAt, FirstReversedSet, NoneReversed}
use Rattle.luck_pattern.proofs.Ranges as ranges
use Rattle.luck_pattern.proofs.Exactly as exactly
use Rattle.luck_pattern.proofs.ItemRanges as items

module _ (version : ℕ) (pat : List ℕ) where
  -- the check is the check without the test, or 39 at a byte that a hyphen and a smaller byte follow; `reversed_exactly` says at which
  pub as_before_or_39 : (check_pattern version pat ≡ check_pattern_as false version pat)
      ⊎ ((k : ℕ) × RangeAt pat k × (check_pattern version pat ≡ refused 39 k))
  unfolding check_pattern
  as_before_or_39 = ranges.same_or_39 version pat

  -- what is accepted is accepted without the test, with the same count
  pub accepted_without : (n : ℕ) → check_pattern version pat ≡ accepted n → check_pattern_as false version pat ≡ accepted n
  unfolding check_pattern
  accepted_without n = ranges.accepted_without version pat true n

  -- where no set has a reversed range, the answer is the one without the test
  pub as_before : NoneReversed pat → check_pattern version pat ≡ check_pattern_as false version pat
  unfolding check_pattern
  as_before = exactly.check_as_before version pat

  -- it is accepted exactly where it is accepted without the test and no set has a reversed range
  pub accepted_exactly : (n : ℕ)
      → (check_pattern version pat ≡ accepted n) ↔ ((check_pattern_as false version pat ≡ accepted n) × NoneReversed pat)
  unfolding check_pattern
  accepted_exactly = exactly.check_accepted version pat

  -- it is 39 at k exactly where the version and the text are fine, and the first set that has a reversed range, before which nothing is at fault, has
  -- its first one at k
  pub reversed_exactly : (k : ℕ)
      → (check_pattern version pat ≡ refused 39 k) ↔ ((is_version version ≡ true) × (ill_formed pat ≡ None) × FirstReversedSet pat k)
  unfolding check_pattern
  reversed_exactly = exactly.check_39 version pat

  -- it is not 39 exactly where the version or the text is refused, or no set that the check without the test comes to has a reversed range
  pub not_39_exactly : ((check_pattern version pat).number ≡ 39 → ⊥) ↔ (is_version version ≡ true → ill_formed pat ≡ None → NoneReversed pat)
  unfolding check_pattern
  not_39_exactly = exactly.check_not_39 version pat

-- the ranges are those of the matching, at each place: the check finds no reversed range in the item there exactly where the set that the matching reads
-- there has none
pub as_matching_reads : (pat : List ℕ) (p : ℕ) → (item_reversed pat p ≡ None) ↔ UpwardsItem (item_of (read_item pat p))
as_matching_reads pat p = items.item_alike pat p
