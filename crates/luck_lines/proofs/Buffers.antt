-- Laws of a buffer whose bytes from `at` on move to its front: `to` of them are moved.
-- Assumes nothing.
use mathlib.Core.Path.{◌≡◌, refl, sym, ap, ap₂, ◌∙◌}
use Prim.Native.Nat.{ℕ, zero, suc, ◌+◌, ◌-◌, ◌≤◌, min}
use native.Mathlib.Nat.{sub-zero, zero-sub, suc-sub-suc, zero-add}
use native.Mathlib.Omega.{arith}
use mathlib.Core.Bool.{Bool, true, false}
use mathlib.Core.List.{List, [], ◌∷◌, ◌++◌}
use lib.Dec.{leb}
use lib.ListN.{length, take, drop, take-append-drop, length-drop}
use lib.Seq.{paste, take-nil, take_all, drop-drop, length-take-le}
use borrow.Author.Tests.{leb-true, leb-false}
use Rattle.std.proofs.lemmas.List.Edits.{take-paste, drop-paste}
use Rattle.luck_text.specs.Bytes.{part, in_front}

-- n bytes from `at` on are copied to the front
module _ (first : List ℕ) (at n : ℕ) (inside : at + n ≤ length first) where
  pub copied_front : take n (paste first 0 (drop at first) n) ≡ take n (drop at first)
  copied_front =
      ap (λ (k : ℕ). take k (paste first 0 (drop at first) n)) (sym (zero-add n))
      ∙ take-paste first 0 (drop at first) n (omega arith) (omega (arith, length-drop at first))

  pub copied_rest : drop n (paste first 0 (drop at first) n) ≡ drop n first
  copied_rest =
      ap (λ (k : ℕ). drop k (paste first 0 (drop at first) n)) (sym (zero-add n))
      ∙ drop-paste first 0 (drop at first) n (omega arith) (omega (arith, length-drop at first))
      ∙ ap (λ (k : ℕ). drop k first) (zero-add n)

module _ (first buffer : List ℕ) (at to : ℕ) (same : length buffer ≡ length first)
    (front : take to buffer ≡ take to (drop at first)) (rest : drop to buffer ≡ drop to first) where
  -- what is moved is the part that was asked for
  module _ (end : ℕ) (few : to ≤ length first - at) (whole : take to (drop at first) ≡ part first at end) where
    moved : length (part first at end) ≡ to
    moved = ap length (sym whole) ∙ length-take-le to (drop at first) (omega (arith, length-drop at first))

    pub kept : (to ≡ length (part first at end)) × ((buffer ≡ in_front (part first at end) first) × (to ≤ length buffer))
    kept = (
      sym moved,
      (
        sym (take-append-drop to buffer) ∙ ap₂ ◌++◌ (front ∙ whole) (rest ∙ ap (λ (k : ℕ). drop k first) (sym moved)),
        omega arith,
      ),
    )

all_moved : (first : List ℕ) (at to end : ℕ) → to ≤ end - at → end ≤ at + to → take to (drop at first) ≡ part first at end
all_moved first at to end h g = let e : to ≡ end - at = omega arith in ap (λ (k : ℕ). take k (drop at first)) e

-- the buffer ends before the part does
buffer_ends : (first : List ℕ) (at to end : ℕ) → to ≤ end - at → length first ≤ at + to → take to (drop at first) ≡ part first at end
buffer_ends first at to end h g =
    take_all to (drop at first) (omega (arith, length-drop at first)) ∙ sym (take_all (end - at) (drop at first) (omega (arith, length-drop at first)))

-- the part, up to the end of the buffer
pub part_moved : (first : List ℕ) (at to end : ℕ) → to ≡ min end (length first) - at → take to (drop at first) ≡ part first at end
part_moved first at to end e = go (leb end (length first)) refl
  where
    go : (t : Bool) → leb end (length first) ≡ t → take to (drop at first) ≡ part first at end
    go true l = let h = leb-true end (length first) l in all_moved first at to end (omega arith) (omega arith)
    go false l = let h = leb-false end (length first) l in buffer_ends first at to end (omega arith) (omega arith)

-- ---- What is left of a part

drop_take : (u n : ℕ) (l : List ℕ) → drop u (take n l) ≡ take (n - u) (drop u l)
drop_take zero n l = ap (λ (k : ℕ). take k l) (sym (sub-zero n))
drop_take (suc u) zero l = ap (λ (k : ℕ). take k (drop (suc u) l)) (sym (zero-sub (suc u)))
drop_take (suc u) (suc n) [] = sym (take-nil (suc n - suc u))
drop_take (suc u) (suc n) (b ∷ l) = drop_take u n l ∙ ap (λ (k : ℕ). take k (drop u l)) (sym (suc-sub-suc n u))

pub part_left : (l : List ℕ) (at end u : ℕ) → drop u (part l at end) ≡ part l (at + u) end
part_left l at end u =
    let e : end - at - u ≡ end - (at + u) = omega arith in
    drop_take u (end - at) (drop at l) ∙ ap (take (end - at - u)) (drop-drop u at l) ∙ ap (λ (k : ℕ). take k (drop (at + u) l)) e
