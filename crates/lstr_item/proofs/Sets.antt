-- The elements of a set, one after another.
-- Assumes nothing.
use Prim.Native.Nat.{ℕ, ◌+◌, ◌≤◌, ◌<◌}
use Prim.Native.Char.{code}
use mathlib.Core.Path.{◌≡◌}
use mathlib.Core.Logic.{◌⊎◌, inl, inr}
use mathlib.Core.Bool.{Bool, false, not, ◌&&◌, ◌||◌}
use mathlib.Core.List.{List, [], ◌∷◌}
use lib.Dec.{eqb, ltb}
use borrow.Author.Tests.{lt-ltb, le-ltb, eq-eqb, ne_eqb}
use Rattle.luck_text.specs.Bytes.{when◌then◌else◌, byte_at, between}
use Rattle.luck_text.proofs.Cases.{first_false, second_false}
use Rattle.luck_pattern.specs.Reading.{first_member}
use Rattle.luck_pattern.specs.Elements.{element_at, width_of, elements_in, elements_of}
use Rattle.luck_pattern.specs.Items.{set_of}
use Rattle.luck_pattern.proofs.Elements.{placed_at, placed_end}
use Rattle.lstr_item.specs.Single.{is_element, is_any_of, in_set}

module _ (pat : List ℕ) (e : ℕ) where
  -- the elements from a place on: the one there, and those from the place after it on
  pub elements_at : (q : ℕ) → q < e → elements_of pat e q ≡ element_at pat e q ∷ elements_of pat e (q + width_of (element_at pat e q))
  unfolding elements_of elements_in
  elements_at q h = rw (placed_at pat e q h)

  pub elements_end : (q : ℕ) → e ≤ q → elements_of pat e q ≡ []
  unfolding elements_of elements_in
  elements_end q h = rw (placed_end pat e q h)

  -- whether a byte is one of them, by what the test of the one there says
  module _ (in_class : ℕ → ℕ → Bool) (c : ℕ) where
    abbrev pub any_from : ℕ → Bool
    any_from q = is_any_of in_class (elements_of pat e q) c

    module _ (q : ℕ) where
      pub any_end : e ≤ q → false ≡ any_from q
      unfolding is_any_of
      any_end h = rw (elements_end q h)

      module _ (h : q < e) (t : Bool) where
        pub any_escape : byte_at pat q ≡ code "%" → in_class (byte_at pat (q + 1)) c ≡ t → any_from q ≡ (t || any_from (q + 2))
        unfolding is_any_of is_element element_at width_of when◌then◌else◌
        any_escape b f = rw (elements_at q h, eq-eqb (byte_at pat q) (code "%") b, f)

        module _ (b : byte_at pat q ≡ code "%" → ⊥) where
          pub any_range : byte_at pat (q + 1) ≡ code "-" → q + 2 < e → between (byte_at pat q) (byte_at pat (q + 2)) c ≡ t → any_from q ≡ (t || any_from (q + 3))
          unfolding is_any_of is_element element_at width_of when◌then◌else◌
          any_range d l f = rw (elements_at q h, ne_eqb (byte_at pat q) (code "%") b, eq-eqb (byte_at pat (q + 1)) (code "-") d, lt-ltb (q + 2) e l, f)

          pub any_plain : (byte_at pat (q + 1) ≡ code "-" → ⊥) ⊎ (e ≤ q + 2) → eqb (byte_at pat q) c ≡ t → any_from q ≡ (t || any_from (q + 1))
          unfolding is_any_of is_element element_at width_of when◌then◌else◌
          any_plain d f = rw (elements_at q h, ne_eqb (byte_at pat q) (code "%") b, no_range d, f)
            where
              no_range : (byte_at pat (q + 1) ≡ code "-" → ⊥) ⊎ (e ≤ q + 2) → (eqb (byte_at pat (q + 1)) (code "-") && ltb (q + 2) e) ≡ false
              no_range (inl n) = first_false (eqb (byte_at pat (q + 1)) (code "-")) (ltb (q + 2) e) (ne_eqb (byte_at pat (q + 1)) (code "-") n)
              no_range (inr g) = second_false (eqb (byte_at pat (q + 1)) (code "-")) (ltb (q + 2) e) (le-ltb (q + 2) e g)

    -- the set from its `[` at p
    module _ (p : ℕ) where
      pub set_complement : byte_at pat (p + 1) ≡ code "^" → not (any_from (p + 2)) ≡ in_set in_class (set_of pat p e) c
      unfolding in_set set_of first_member when◌then◌else◌
      set_complement b = rw (eq-eqb (byte_at pat (p + 1)) (code "^") b)

      pub set_plain : (byte_at pat (p + 1) ≡ code "^" → ⊥) → any_from (p + 1) ≡ in_set in_class (set_of pat p e) c
      unfolding in_set set_of first_member when◌then◌else◌
      set_plain b = rw (ne_eqb (byte_at pat (p + 1)) (code "^") b)
