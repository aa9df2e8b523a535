-- What the answers of all checks share: the offset and the count are at most the text's length, and the number is one of a list. What is counted is an item of a walk,
-- and an item takes a byte at least, so that no walk has counted more than the place that it stands at.
-- Assumes nothing.
use Prim.Native.Nat.{ℕ, zero, suc, ◌+◌, ◌-◌, ◌≤◌, ◌<◌}
use native.Mathlib.Omega.{arith}
use mathlib.Core.Path.{◌≡◌, refl, sym}
use mathlib.Core.Bool.{Bool, true, false, not, ◌&&◌, ◌||◌}
use mathlib.Core.List.{List, [], ◌∷◌}
use lib.ListN.{length}
use lib.Dec.{eqb}
use borrow.Author.Tests.{ne_eqb}
use Rattle.luck_text.specs.Bytes.{among}
use Rattle.luck_text.specs.Walk.{Turn, stop, goes, walk, walk_from}
use Rattle.luck_text.proofs.Cases.{and_left, and_right, both_true}
use Rattle.luck_answer.specs.Answer.{Answer, check_text}
use Rattle.luck_answer.proofs.Texts.{in_any_case}
use Rattle.luck_answer.proofs.Answers.{is_whole, check_fits}

-- ---- A walk

-- a turn, after n things were counted: its answer, or one thing more at most
abbrev pub Counts : {S A : Type 0} → (S → ℕ) → (A → Type 0) → ℕ → Turn S A → Type 0
Counts count P n (stop a) = P a
Counts count P n (goes width s) = count s ≤ n + 1

-- what holds of the answer of each turn that stops, and at the end of a count that is at most the text's length, holds of the walk's answer
module _ {S A : Type 0} (item : ℕ → S → Turn S A) (ends : ℕ → S → A) (len : ℕ) (count : S → ℕ) (P : A → Type 0)
    (turns : (p : ℕ) (s : S) → p < len → Counts count P (count s) (item p s))
    (at_end : (p : ℕ) (s : S) → count s ≤ len → P (ends p s)) where
  onward : (n p : ℕ) (s : S) (t : Turn S A) → count s ≤ p → Counts count P (count s) t → ((k : ℕ) (next : S) → count next ≤ suc p → P (walk item ends n k (suc p) next))
      → P (elim t [ stop a ↦ a | goes width next ↦ walk item ends n (width - 1) (suc p) next ])
  onward n p s (stop a) h c rest = c
  onward n p s (goes width next) h c rest = rest (width - 1) next (omega arith)

  within : (n k p : ℕ) (s : S) → n + p ≤ len → count s ≤ p → P (walk item ends n k p s)
  unfolding walk
  within zero k p s h c = at_end p s (omega arith)
  within (suc n) (suc k) p s h c = within n k (suc p) s (omega arith) (omega arith)
  within (suc n) zero p s h c = onward n p s (item p s) c (turns p s (omega arith)) (λ k next. within n k (suc p) next (omega arith))

  pub walk_counts : (s : S) → count s ≡ 0 → P (walk_from item ends len 0 s)
  unfolding walk_from
  walk_counts s e = within (len - 0) 0 0 s (omega arith) (omega arith)

-- ---- A text

-- an answer's offset and count are at most this, its fields are those of its number, and its number is one of these
abbrev pub Bounded : ℕ → List ℕ → Answer → Type 0
Bounded len numbers answer = (answer.offset ≤ len) × ((is_whole answer && among answer.number numbers) ≡ true) × (answer.count ≤ len)

own_numbers : (o p q r : Bool) → o ≡ false → (not p && (not q && not r)) ≡ true → (o || (p || (q || (r || false)))) ≡ false
own_numbers true p q r e f = e
own_numbers false true q r e f = sym f
own_numbers false false true r e f = sym f
own_numbers false false false true e f = sym f
own_numbers false false false false e f = refl

-- a walk's answer besides has none of the numbers that come before every walk
abbrev is_own : ℕ → Bool
is_own n = not (eqb n 23) && (not (eqb n 25) && not (eqb n 30))

abbrev pub is_walked : Answer → Bool
is_walked a = is_own a.number && is_whole a

abbrev pub Walked : ℕ → List ℕ → Answer → Type 0
Walked len numbers answer = (answer.offset ≤ len) × ((is_walked answer && among answer.number numbers) ≡ true) × (answer.count ≤ len)

module _ (len : ℕ) (numbers : List ℕ) (a : Answer) (h : Walked len numbers a) where
  own : is_own a.number ≡ true
  own = and_left (is_own a.number) (is_whole a) (and_left (is_walked a) (among a.number numbers) h.1)

  pub walked_bounded : Bounded len numbers a
  walked_bounded = (
    h.0,
    both_true (is_whole a) (among a.number numbers) (and_right (is_own a.number) (is_whole a) (and_left (is_walked a) (among a.number numbers) h.1))
        (and_right (is_walked a) (among a.number numbers) h.1),
    h.2,
  )

  -- so that a refusal of a body is none of 0, 23, 25 and 30
  pub walked_own : (a.number ≡ 0 → ⊥) → among a.number (0 ∷ 23 ∷ 25 ∷ 30 ∷ []) ≡ false
  unfolding among
  walked_own n = own_numbers (eqb a.number 0) (eqb a.number 23) (eqb a.number 25) (eqb a.number 30) (ne_eqb a.number 0 n) own

-- a check's answer is bounded, if its walk's is
pub check_bounded : (text numbers : List ℕ) → among 23 numbers ≡ true → among 25 numbers ≡ true → (version : ℕ) (walked : Answer)
    → Walked (length text) numbers walked → Bounded (length text) numbers (check_text version text walked)
check_bounded text numbers has-23 has-25 version walked w =
    let h = walked_bounded (length text) numbers walked w in
    let fits = check_fits text numbers has-23 has-25 version walked (h.0, h.1) in
    (fits.0, fits.1, in_any_case version text walked (λ (a : Answer). a.count ≤ length text) (omega arith) (λ place i. omega arith) h.2)
