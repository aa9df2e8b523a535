-- What is promised of reversed ranges (F-10 of document 02) as the matching reads them. The check refuses them, and a trial runs them: such a range fits no
-- byte, and a set fits what it fits without those that it has.
-- Assumes nothing.
use Prim.Native.Nat.{ℕ}
use native.Mathlib.Omega.{arith}
use mathlib.Core.Path.{◌≡◌, refl, sym, ap, ◌∙◌}
use mathlib.Core.Logic.{◌↔◌}
use mathlib.Core.Bool.{Bool, true, false, not, ◌&&◌, ◌||◌, true≢false}
use mathlib.Core.List.{List, [], ◌∷◌}
use lib.Dec.{leb}
use borrow.Author.Tests.{ltb-true, leb-true, lt-leb}
use Rattle.luck_text.specs.Bytes.{when◌then◌else◌}
use Rattle.luck_text.proofs.Cases.{by_test, first_false, second_false}
use Rattle.luck_pattern.specs.Elements.{Element, escape, range, plain, is_reversed}
use Rattle.luck_answer.specs.Answer.{accepted}
use Rattle.luck_pattern.specs.Pattern.{check_pattern_as, check_pattern}
use Rattle.luck_pattern.specs.Items.{Set, items}
use Rattle.luck_pattern.specs.Ranges.{AllUpwards, without_reversed}
use Rattle.lstr_laws.proofs.ItemsUpwards.{upwards_items}
use Rattle.lstr_item.specs.Single.{is_element, is_any_of, in_set}

-- of the patterns that are accepted without the test of ranges, exactly those are accepted with it whose items, as a trial runs them, have no reversed range
pub items_exactly : (version : ℕ) (pat : List ℕ) (n : ℕ) → check_pattern_as false version pat ≡ accepted n
    → (check_pattern version pat ≡ accepted n) ↔ AllUpwards (items pat 0)
items_exactly = upwards_items

-- over any test for classes: a reversed range fits no byte,
module _ (in_class : ℕ → ℕ → Bool) where
  pub fits_nothing : (element : Element) (c : ℕ) → is_reversed element ≡ true → is_element in_class element c ≡ false
  unfolding is_reversed is_element
  fits_nothing (escape b) c e = absurd (true≢false (sym e))
  fits_nothing (plain b) c e = absurd (true≢false (sym e))
  fits_nothing (range left right) c e = go (leb left c) refl
    where
      go : (b : Bool) → leb left c ≡ b → (leb left c && leb c right) ≡ false
      go true f = second_false (leb left c) (leb c right) (lt-leb c right (omega (arith, ltb-true right left e, leb-true left c f)))
      go false f = first_false (leb left c) (leb c right) f

  any_without : (elements : List Element) (c : ℕ) → is_any_of in_class (without_reversed elements) c ≡ is_any_of in_class elements c
  unfolding without_reversed is_any_of
  any_without [] c = refl
  any_without (element ∷ more) c =
      by_test (λ (xs : List Element). is_any_of in_class xs c ≡ is_any_of in_class (element ∷ more) c) (is_reversed element) _ _
      (λ e. any_without more c ∙ sym (ap (λ b. b || is_any_of in_class more c) (fits_nothing element c e)))
      (λ e. ap (λ b. is_element in_class element c || b) (any_without more c))

  -- and a set fits what it fits without them
  pub same_without : (set : Set) (c : ℕ)
      → in_set in_class (record { complement = set.complement; elements = without_reversed set.elements }) c ≡ in_set in_class set c
  unfolding in_set
  same_without set c = ap (λ fits. when set.complement then not fits else fits) (any_without set.elements c)
