-- What a walk keeps from item to item, its answer has: I is said of how many bytes are left and of the state, P of the answer.
-- Assumes nothing.
use Prim.Native.Nat.{ℕ, zero, suc, ◌+◌, ◌-◌, ◌<◌}
use native.Mathlib.Omega.{arith}
use mathlib.Core.Path.{◌≡◌, subst}
use Rattle.luck_text.specs.Walk.{Turn, stop, goes, walk, walk_from}

-- a turn with `left` bytes left: its answer, or what is left behind the item, which takes a byte at least
abbrev pub Turns : {S A : Type 0} → (ℕ → S → Type 0) → (A → Type 0) → ℕ → Turn S A → Type 0
Turns I P left (stop a) = P a
Turns I P left (goes width s) = I (left - 1 - (width - 1)) s

module _ {S A : Type 0} (item : ℕ → S → Turn S A) (ends : ℕ → S → A) (len : ℕ) (I : ℕ → S → Type 0) (P : A → Type 0)
    (turns : (p : ℕ) (s : S) → p < len → I (len - p) s → Turns I P (len - p) (item p s))
    (at_end : (p : ℕ) (s : S) → I 0 s → P (ends p s)) where
  onward : (n p : ℕ) (t : Turn S A) → Turns I P (suc n) t → ((k : ℕ) (s : S) → I (n - k) s → P (walk item ends n k (suc p) s))
      → P (elim t [ stop a ↦ a | goes width s ↦ walk item ends n (width - 1) (suc p) s ])
  onward n p (stop a) h rest = h
  onward n p (goes width s) h rest =
      let e : suc n - 1 - (width - 1) ≡ n - (width - 1) = omega arith in
      rest (width - 1) s (subst (λ (m : ℕ). I m s) e h)

  kept : (n k p : ℕ) (s : S) → n + p ≡ len → I (n - k) s → P (walk item ends n k p s)
  unfolding walk
  kept zero k p s e h = let z : 0 - k ≡ 0 = omega arith in at_end p s (subst (λ (m : ℕ). I m s) z h)
  kept (suc n) (suc k) p s e h =
      let z : suc n - suc k ≡ n - k = omega arith in
      kept n k (suc p) s (omega arith) (subst (λ (m : ℕ). I m s) z h)
  kept (suc n) zero p s e h =
      let a : suc n - 0 ≡ len - p = omega arith in
      let b : len - p ≡ suc n = omega arith in
      onward n p (item p s)
      (subst (λ (m : ℕ). Turns I P m (item p s)) b (turns p s (omega arith) (subst (λ (m : ℕ). I m s) a h)))
      (λ k next. kept n k (suc p) next (omega arith))

  pub walk_keeps : (s : S) → I len s → P (walk_from item ends len 0 s)
  unfolding walk_from
  walk_keeps s h =
      let e : len ≡ len - 0 - 0 = omega arith in
      kept (len - 0) 0 0 s (omega arith) (subst (λ (m : ℕ). I m s) e h)
