-- What stays the same over each byte that is not a given one stays the same over any run of such bytes.
-- Assumes nothing.
use Prim.Native.Nat.{ℕ, zero, suc, ◌+◌, ◌-◌, ◌<◌, ◌≤◌}
use native.Mathlib.Omega.{arith}
use mathlib.Core.Path.{◌≡◌, ap, ◌∙◌}
use mathlib.Core.List.{List}
use lib.ListN.{length}
use Rattle.luck_text.specs.Bytes.{byte_at}

module _ {A : Type 0} (a : ℕ) (text : List ℕ) (on : ℕ → A)
    (passes : (p : ℕ) → p < length text → (byte_at text p ≡ a → ⊥) → on (p + 1) ≡ on p) where
  passes_run : (n p : ℕ) → p + n ≤ length text → ((k : ℕ) → p ≤ k → k < p + n → byte_at text k ≡ a → ⊥) → on (p + n) ≡ on p
  passes_run zero p h none = let e : p + 0 ≡ p = omega arith in ap on e
  passes_run (suc n) p h none =
      let e : p + suc n ≡ p + 1 + n = omega arith in
      ap on e ∙ passes_run n (p + 1) (omega arith) (λ k l m. none k (omega arith) (omega arith))
      ∙ passes p (omega arith) (none p (omega arith) (omega arith))

  pub passes_others : (p q : ℕ) → p ≤ q → q ≤ length text → ((k : ℕ) → p ≤ k → k < q → byte_at text k ≡ a → ⊥) → on q ≡ on p
  passes_others p q l h none =
      let e : q ≡ p + (q - p) = omega arith in
      ap on e ∙ passes_run (q - p) p (omega arith) (λ k m n. none k m (omega arith))
