-- The elements of a set with their places: they are those of the matching, and the first reversed range is where the
-- definition says.
-- Assumes nothing.
use Rattle.std.specs.Prelude.{Option, None, Some}
use Prim.Native.Nat.{ℕ, zero, suc, ◌+◌, ◌-◌, ◌≤◌, ◌<◌}
use Prim.Native.Char.{code}
use native.Mathlib.Omega.{arith}
use mathlib.Core.Path.{◌≡◌, refl, sym, ap, subst, ◌∙◌}
use mathlib.Core.Logic.{⊎_elim, ◌↔◌}
use mathlib.Core.Bool.{true, ◌&&◌, true≢false}
use mathlib.Core.List.Memᴰ
use mathlib.Core.List.{List, [], ◌∷◌}
use lib.Dec.{eqb, leb, ltb}
use borrow.Author.Tests.{ltb-true, ltb-false, eqb-true, eqb-false, le-leb, lt-leb, lt-ltb, le-ltb, eq-eqb, ne_eqb}
use Rattle.luck_text.specs.Bytes.{when◌then◌else◌, byte_at}
use Rattle.luck_text.proofs.Cases.{by_test, if_true, if_false, and_left, and_right, first_false}
use Rattle.luck_pattern.specs.Elements.{
  Element,
  escape,
  range,
  plain,
  element_at,
  width_of,
  PlacedElement,
  ◌at◌,
  placed_from,
  placed_elements,
  elements_in,
  elements_of,
  is_reversed,
  reversed_in,
  first_reversed,
}
use Rattle.luck_pattern.specs.Ranges.{Upwards}

-- ---- The bound taken away

pub wide : (x : Element) → 0 < width_of x
unfolding width_of
wide (escape b) = omega arith
wide (range left right) = omega arith
wide (plain b) = omega arith

module _ (pat : List ℕ) (e : ℕ) where
  from_end : (n q : ℕ) → e ≤ q → placed_from pat e n q ≡ []
  unfolding placed_from when◌then◌else◌
  from_end zero q h = refl
  from_end (suc n) q h = rw (le-leb e q h)

  any_bound : (m n q : ℕ) → e ≤ q + m → e ≤ q + n → placed_from pat e m q ≡ placed_from pat e n q
  unfolding placed_from
  any_bound zero n q h k = sym (from_end n q (omega arith))
  any_bound (suc m) zero q h k = from_end (suc m) q (omega arith)
  any_bound (suc m) (suc n) q h k =
      let w = wide (element_at pat e q) in
      rw (any_bound m n (q + width_of (element_at pat e q)) (omega arith) (omega arith))

  -- the elements from a place on: the one there, and those from the place after it on
  pub placed_at : (q : ℕ) → q < e
      → placed_elements pat e q ≡ ◌at◌ (element_at pat e q) q ∷ placed_elements pat e (q + width_of (element_at pat e q))
  unfolding placed_elements placed_from
  placed_at q h =
      let w = wide (element_at pat e q) in
      any_bound (e - q) (suc (e - q)) q (omega arith) (omega arith)
      ∙ if_false (leb e q) [] _ (lt-leb e q h)
      ∙ ap {B = List PlacedElement} (λ more. ◌at◌ (element_at pat e q) q ∷ more) (any_bound (e - q) (e - (q + width_of (element_at pat e q))) (q + width_of (element_at pat e q)) (omega arith) (omega arith))

  pub placed_end : (q : ℕ) → e ≤ q → placed_elements pat e q ≡ []
  unfolding placed_elements
  placed_end q h = from_end (e - q) q h

  -- the first reversed range from a place on, as a loop meets it
  pub reversed_end : (q : ℕ) → e ≤ q → first_reversed pat e q ≡ None
  unfolding first_reversed reversed_in
  reversed_end q h = rw (placed_end q h)

  pub reversed_at : (q : ℕ) → q < e
      → first_reversed pat e q ≡ (when is_reversed (element_at pat e q) then Some q else first_reversed pat e (q + width_of (element_at pat e q)))
  unfolding first_reversed reversed_in
  reversed_at q h = rw (placed_at q h)

  -- the same by the bytes there
  module _ (q : ℕ) (h : q < e) where
    pub reversed_escape : byte_at pat q ≡ code "%" → first_reversed pat e q ≡ first_reversed pat e (q + 2)
    unfolding element_at width_of is_reversed when◌then◌else◌
    reversed_escape b = rw (reversed_at q h, eq-eqb (byte_at pat q) (code "%") b)

    module _ (b : byte_at pat q ≡ code "%" → ⊥) where
      pub reversed_here : byte_at pat (q + 1) ≡ code "-" → q + 2 < e → byte_at pat (q + 2) < byte_at pat q
          → first_reversed pat e q ≡ Some q
      unfolding element_at width_of is_reversed when◌then◌else◌
      reversed_here d l r =
          rw (reversed_at q h, ne_eqb (byte_at pat q) (code "%") b, eq-eqb (byte_at pat (q + 1)) (code "-") d, lt-ltb (q + 2) e l)
          (if_true _ _ _ (lt-ltb (byte_at pat (q + 2)) (byte_at pat q) r))

      pub upwards_here : byte_at pat (q + 1) ≡ code "-" → q + 2 < e → byte_at pat q ≤ byte_at pat (q + 2)
          → first_reversed pat e q ≡ first_reversed pat e (q + 3)
      unfolding element_at width_of is_reversed when◌then◌else◌
      upwards_here d l r =
          rw (reversed_at q h, ne_eqb (byte_at pat q) (code "%") b, eq-eqb (byte_at pat (q + 1)) (code "-") d, lt-ltb (q + 2) e l)
          (if_false _ _ _ (le-ltb (byte_at pat (q + 2)) (byte_at pat q) r))

      pub plain_here : (byte_at pat (q + 1) ≡ code "-" → ⊥) → first_reversed pat e q ≡ first_reversed pat e (q + 1)
      unfolding element_at width_of is_reversed when◌then◌else◌
      plain_here n =
          rw (reversed_at q h, ne_eqb (byte_at pat q) (code "%") b, first_false (eqb (byte_at pat (q + 1)) (code "-")) (ltb (q + 2) e) (ne_eqb (byte_at pat (q + 1)) (code "-") n))

-- ---- None is reversed

upwards_none : (xs : List PlacedElement) → Upwards (elements_in xs) → reversed_in xs ≡ None
unfolding elements_in reversed_in is_reversed
upwards_none [] up = refl
upwards_none (x ∷ xs) up =
    by_test (λ (o : Option ℕ). o ≡ None) (is_reversed x.element) _ _ (λ t. absurd (below x.element t up))
    (λ t. upwards_none xs (λ left right m. up left right (Memᴰ.tail m)))
  where
    below : (y : Element) → is_reversed y ≡ true → Upwards (y ∷ elements_in xs) → ⊥
    below (escape b) t up = true≢false (sym t)
    below (plain b) t up = true≢false (sym t)
    below (range left right) t up = let h = up left right (Memᴰ.head refl) in omega (arith, ltb-true right left t)

none_upwards : (xs : List PlacedElement) → reversed_in xs ≡ None → Upwards (elements_in xs)
unfolding elements_in reversed_in is_reversed
none_upwards [] e left right m = absurd (Memᴰ.not-nil m)
none_upwards (x ∷ xs) e left right m =
    by_test (λ (o : Option ℕ). o ≡ None → left ≤ right) (is_reversed x.element) _ _ (λ t f. let z : ◌≡◌ {A = ℕ} 0 1 = cc in absurd (omega arith))
    (λ t f. ⊎_elim (λ same. ltb-false right left (ap is_reversed same ∙ t)) (λ later. none_upwards xs f left right later) (Memᴰ.cases_cons m)) e

-- no range is reversed: each range that the matching reads runs upwards
pub none_reversed : (pat : List ℕ) (e q : ℕ) → (first_reversed pat e q ≡ None) ↔ Upwards (elements_of pat e q)
unfolding first_reversed elements_of
none_reversed pat e q = (none_upwards (placed_elements pat e q), upwards_none (placed_elements pat e q))

-- ---- One is reversed

-- a range whose left byte stands at place k, in a set from place q on that closes at e, is reversed
pub record ReversedAt (pat : List ℕ) (e q k : ℕ) : Type 0 where
  pub behind : q ≤ k
  pub inside : k + 2 < e
  pub hyphen : byte_at pat (k + 1) ≡ code "-"
  pub unescaped : byte_at pat k ≡ code "%" → ⊥
  pub reversed : byte_at pat (k + 2) < byte_at pat k

module _ (pat : List ℕ) (e : ℕ) where
  element_reversed : (q : ℕ) → is_reversed (element_at pat e q) ≡ true → ReversedAt pat e q q
  unfolding element_at is_reversed
  element_reversed q =
      by_test (λ (x : Element). is_reversed x ≡ true → ReversedAt pat e q q) (eqb (byte_at pat q) 37) _ _ (λ t f. absurd (true≢false (sym f)))
      (λ t. by_test (λ (x : Element). is_reversed x ≡ true → ReversedAt pat e q q) (eqb (byte_at pat (q + 1)) 45 && ltb (q + 2) e) _ _
      (λ u f.
      record {
        behind = omega arith;
        inside = ltb-true (q + 2) e (and_right (eqb (byte_at pat (q + 1)) 45) (ltb (q + 2) e) u);
        hyphen = eqb-true (byte_at pat (q + 1)) 45 (and_left (eqb (byte_at pat (q + 1)) 45) (ltb (q + 2) e) u);
        unescaped = eqb-false (byte_at pat q) 37 t;
        reversed = ltb-true (byte_at pat (q + 2)) (byte_at pat q) f;
      })
      (λ u f. absurd (true≢false (sym f))))

  further : (q r k : ℕ) → q ≤ r → ReversedAt pat e r k → ReversedAt pat e q k
  further q r k h a = record { behind = omega (arith, a.behind); inside = a.inside; hyphen = a.hyphen; unescaped = a.unescaped; reversed = a.reversed }

  some_from : (n q k : ℕ) → reversed_in (placed_from pat e n q) ≡ Some k → ReversedAt pat e q k
  unfolding placed_from reversed_in
  some_from zero q k = λ f. let z : ◌≡◌ {A = ℕ} 0 1 = cc in absurd (omega arith)
  some_from (suc n) q k =
      by_test (λ (xs : List PlacedElement). reversed_in xs ≡ Some k → ReversedAt pat e q k) (leb e q) _ _
      (λ t f. let z : ◌≡◌ {A = ℕ} 0 1 = cc in absurd (omega arith))
      (λ t. by_test (λ (o : Option ℕ). o ≡ Some k → ReversedAt pat e q k) (is_reversed (element_at pat e q)) _ _
      (λ u f. let same : q ≡ k = cc in subst (ReversedAt pat e q) same (element_reversed q u))
      (λ u f. further q (q + width_of (element_at pat e q)) k (omega arith) (some_from n (q + width_of (element_at pat e q)) k f)))

  -- the place that is found is that of a reversed range's left byte
  pub some_reversed : (q k : ℕ) → first_reversed pat e q ≡ Some k → ReversedAt pat e q k
  unfolding first_reversed placed_elements
  some_reversed q k f = some_from (e - q) q k f

  -- a range has three bytes
  pub no_range_left : (q : ℕ) → e ≤ q + 2 → first_reversed pat e q ≡ None
  no_range_left q h = go (first_reversed pat e q) refl
    where
      go : (o : Option ℕ) → first_reversed pat e q ≡ o → first_reversed pat e q ≡ None
      go None f = f
      go (Some k) f = let r = some_reversed q k f in absurd (omega (arith, r.behind, r.inside))

-- for a function that reads the elements from a place on
pub ruleset elements_read = (reversed_escape, reversed_here, upwards_here, plain_here, no_range_left)

-- ---- Members without a hyphen

-- the members from `first` up to a place are the elements there, if no hyphen stands there that the byte before it would make a range with
abbrev pub ElementsTo : List ℕ → ℕ → ℕ → Type 0
ElementsTo pat first q = (byte_at pat q ≡ code "-" → ⊥) → (e : ℕ) → q ≤ e → first_reversed pat e first ≡ first_reversed pat e q

module _ (pat : List ℕ) (first q : ℕ) (before : ElementsTo pat first q) where
  pub element_plain : (byte_at pat q ≡ code "%" → ⊥) → (byte_at pat q ≡ code "-" → ⊥) → ElementsTo pat first (q + 1)
  element_plain b h n e l = before h e (omega arith) ∙ plain_here pat e q (omega arith) b n

  pub element_escaped : byte_at pat q ≡ code "%" → ElementsTo pat first (q + 2)
  element_escaped b n e l = before (λ h. omega arith) e (omega arith) ∙ reversed_escape pat e q (omega arith) b

  pub elements_end : byte_at pat q ≡ code "]" → first_reversed pat q first ≡ None
  elements_end b = before (λ h. omega arith) q (omega arith) ∙ reversed_end pat q q (omega arith)
