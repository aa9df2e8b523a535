-- The laws of a walk: an item that stops it, an item that is passed over, and the end. A loop that walks over a text keeps
-- `walk_from .. p s ≡ the whole answer`, and each turn is one of these.
-- Assumes nothing.
use mathlib.Core.Path.{◌≡◌, refl, sym, ap, ap₂, subst, ◌∙◌}
use Prim.Native.Nat.{ℕ, zero, suc, ◌+◌, ◌-◌, ◌≤◌, ◌<◌}
use native.Mathlib.Nat.{add-zero, sub-zero, suc-sub-suc, suc-add, add-suc, not-suc-le-zero, le_of_suc-le-suc}
use native.Mathlib.Omega.{arith}
use Rattle.luck_text.specs.Walk.{Turn, walk, walk_from}
use Rattle.luck_text.specs.Walk.Turn.{stop, goes}

module _ {S A : Type 0} (item : ℕ → S → Turn S A) (ends : ℕ → S → A) where
  skip : (n k p : ℕ) (s : S) → k ≤ n → walk item ends n k p s ≡ walk item ends (n - k) 0 (p + k) s
  unfolding walk
  skip n zero p s h = rw (sub-zero n, add-zero p)
  skip zero (suc k) p s h = absurd (not-suc-le-zero h)
  skip (suc n) (suc k) p s h =
      skip n k (suc p) s (le_of_suc-le-suc h) ∙ ap₂ (λ (x y : ℕ). walk item ends x 0 y s) (sym (suc-sub-suc n k)) (suc-add p k ∙ sym (add-suc p k))

  one_stop : (n p : ℕ) (s : S) (a : A) → item p s ≡ stop a → walk item ends (suc n) 0 p s ≡ a
  unfolding walk
  one_stop n p s a e = rw (e, walk)

  one_goes : (n p : ℕ) (s : S) (w : ℕ) (s' : S) → item p s ≡ goes w s' → walk item ends (suc n) 0 p s ≡ walk item ends n (w - 1) (suc p) s'
  unfolding walk
  one_goes n p s w s' e = rw (e, walk)

  pub walk_end : (len p : ℕ) (s : S) → len ≤ p → walk_from item ends len p s ≡ ends p s
  unfolding walk_from walk
  walk_end len p s h = let e : len - p ≡ 0 = omega arith in rw e

  pub walk_stop : (len p : ℕ) (s : S) (a : A) → p < len → item p s ≡ stop a → walk_from item ends len p s ≡ a
  unfolding walk_from
  walk_stop len p s a h e =
      let n : len - p ≡ suc (len - suc p) = omega arith in
      ap (λ (x : ℕ). walk item ends x 0 p s) n ∙ one_stop (len - suc p) p s a e

  pub walk_goes : (len p : ℕ) (s : S) (w : ℕ) (s' : S) → 0 < w → p + w ≤ len → item p s ≡ goes w s' → walk_from item ends len p s ≡ walk_from item ends len (p + w) s'
  unfolding walk_from
  walk_goes len p s w s' g h e =
      let n : len - p ≡ suc (len - suc p) = omega arith in
      let m : len - suc p - (w - 1) ≡ len - (p + w) = omega arith in
      let q : suc p + (w - 1) ≡ p + w = omega arith in
      ap (λ (x : ℕ). walk item ends x 0 p s) n ∙ one_goes (len - suc p) p s w s' e ∙ skip (len - suc p) (w - 1) (suc p) s' (omega arith)
      ∙ ap₂ (λ (x y : ℕ). walk item ends x 0 y s') m q

  -- what each item carries over from the state after it to the state before it, the walk's answer has of the state that it began in
  module _ (R : S → A → Type 0)
      (stops : (p : ℕ) (s : S) (a : A) → item p s ≡ stop a → R s a)
      (passes : (p : ℕ) (s : S) (w : ℕ) (s' : S) (a : A) → item p s ≡ goes w s' → R s' a → R s a)
      (at_end : (p : ℕ) (s : S) → R s (ends p s)) where
    related : (n k p : ℕ) (s : S) → R s (walk item ends n k p s)
    unfolding walk
    related zero k p s = at_end p s
    related (suc n) (suc k) p s = related n k (suc p) s
    related (suc n) zero p s = go (λ w s'. related n (w - 1) (suc p) s') (item p s) refl
      where
        go : ((w : ℕ) (s' : S) → R s' (walk item ends n (w - 1) (suc p) s')) → (t : Turn S A) → item p s ≡ t → R s (walk item ends (suc n) 0 p s)
        go rest (stop a) e = subst (R s) (sym (one_stop n p s a e)) (stops p s a e)
        go rest (goes w s') e = subst (R s) (sym (one_goes n p s w s' e)) (passes p s w s' _ e (rest w s'))

    pub walk_related : (len p : ℕ) (s : S) → R s (walk_from item ends len p s)
    unfolding walk_from
    walk_related len p s = related (len - p) 0 p s
