-- What the answers of all checks share: the offset is at most the text's length, the number is one of a list, and the other fields are those of the number.
-- Assumes nothing.
use Prim.Native.Nat.{ℕ, zero, suc, ◌-◌, ◌≤◌, ◌<◌}
use native.Mathlib.Omega.{arith}
use mathlib.Core.Path.{◌≡◌, refl, ap, subst}
use mathlib.Core.Bool.{Bool, true, false, not, ◌&&◌, ◌||◌, true≢false}
use mathlib.Core.List.{List, [], ◌∷◌}
use lib.Dec.{eqb}
use lib.ListN.{length}
use borrow.Author.Tests.{eqb-true, eq-eqb, ne_eqb}
use Rattle.luck_text.specs.Bytes.{among}
use Rattle.luck_text.specs.Walk.{Turn, stop, goes, walk, walk_from}
use Rattle.luck_text.proofs.Cases.{and_left, and_right}
use Rattle.luck_answer.specs.Answer.{Answer, check_text}
use Rattle.luck_answer.proofs.Texts.{in_any_case}

-- ---- A walk

-- what holds of the answer of a turn, if it has one
abbrev pub Stops : {S A : Type 0} → (A → Type 0) → Turn S A → Type 0
Stops P (stop a) = P a
Stops P (goes width s) = Unit {0}

-- what holds of the answer of each turn that stops in the text from a place on, and at its end, holds of the walk's answer
module _ {S A : Type 0} (item : ℕ → S → Turn S A) (ends : ℕ → S → A) (from len : ℕ) (P : A → Type 0)
    (stops : (p : ℕ) (s : S) → from ≤ p → p < len → Stops P (item p s))
    (at_end : (p : ℕ) (s : S) → P (ends p s)) where
  every : (n k p : ℕ) (s : S) → from ≤ p → n ≤ len - p → P (walk item ends n k p s)
  unfolding walk
  every zero k p s f h = at_end p s
  every (suc n) (suc k) p s f h = every n k (suc p) s (omega arith) (omega arith)
  every (suc n) zero p s f h = go (λ w s'. every n (w - 1) (suc p) s' (omega arith) (omega arith)) (item p s) refl
    where
      go : ((w : ℕ) (s' : S) → P (walk item ends n (w - 1) (suc p) s')) → (t : Turn S A) → item p s ≡ t → P (walk item ends (suc n) 0 p s)
      go rest (stop a) e = rw (e, walk) (subst (Stops P) e (stops p s f (omega arith)))
      go rest (goes w s') e = rw (e, walk) (rest w s')

  pub walk_every_from : (s : S) → P (walk_from item ends len from s)
  unfolding walk_from
  walk_every_from s = every (len - from) 0 from s (omega arith) (omega arith)

-- from any place on
module _ {S A : Type 0} (item : ℕ → S → Turn S A) (ends : ℕ → S → A) (len : ℕ) (P : A → Type 0)
    (stops : (p : ℕ) (s : S) → p < len → Stops P (item p s))
    (at_end : (p : ℕ) (s : S) → P (ends p s)) where
  pub walk_every : (p : ℕ) (s : S) → P (walk_from item ends len p s)
  walk_every p = walk_every_from item ends p len P (λ q s _. stops q s) at_end

-- ---- An answer's fields

-- accepted it has no offset and no character, refused no count; 25, 30 and 31 have no offset; the first character comes only with 2, 3, 6, 10, 14 and 18, the second only with 6
pub record Whole (a : Answer) : Type 0 where
  pub accepted_bare : a.number ≡ 0 → (a.offset ≡ 0) × (a.first ≡ 0) × (a.second ≡ 0)
  pub refused_uncounted : (a.number ≡ 0 → ⊥) → a.count ≡ 0
  pub unplaced : among a.number (25 ∷ 30 ∷ 31 ∷ []) ≡ true → a.offset ≡ 0
  pub first_character : among a.number (2 ∷ 3 ∷ 6 ∷ 10 ∷ 14 ∷ 18 ∷ []) ≡ false → a.first ≡ 0
  pub second_character : (a.number ≡ 6 → ⊥) → a.second ≡ 0

-- the same as a test, which computes where the number is known
abbrev has_character : ℕ → Bool
has_character n = eqb n 2 || (eqb n 3 || (eqb n 6 || (eqb n 10 || (eqb n 14 || (eqb n 18 || false)))))

abbrev is_unplaced : ℕ → Bool
is_unplaced n = eqb n 25 || (eqb n 30 || (eqb n 31 || false))

abbrev pub is_whole : Answer → Bool
is_whole a =
    (not (eqb a.number 0) || (eqb a.offset 0 && (eqb a.first 0 && eqb a.second 0)))
    && ((eqb a.number 0 || eqb a.count 0)
    && ((not (is_unplaced a.number) || eqb a.offset 0)
    && ((has_character a.number || eqb a.first 0) && (eqb a.number 6 || eqb a.second 0))))

second_of : (a b : Bool) → (a || b) ≡ true → a ≡ false → b ≡ true
second_of true b e f = absurd (true≢false f)
second_of false b e f = e

pub whole : (a : Answer) → is_whole a ≡ true → Whole a
unfolding among
whole a e =
    let bare = eqb a.offset 0 && (eqb a.first 0 && eqb a.second 0) in
    let alone = not (eqb a.number 0) || bare in
    let uncounted = eqb a.number 0 || eqb a.count 0 in
    let one = has_character a.number || eqb a.first 0 in
    let two = eqb a.number 6 || eqb a.second 0 in
    let placed = not (is_unplaced a.number) || eqb a.offset 0 in
    let more = and_right alone (uncounted && (placed && (one && two))) e in
    let rest = and_right uncounted (placed && (one && two)) more in
    let characters = and_right placed (one && two) rest in
    record {
      accepted_bare =
          λ z. let b = second_of (not (eqb a.number 0)) bare (and_left alone (uncounted && (placed && (one && two))) e) (ap not (eq-eqb a.number 0 z)) in
          let c = and_right (eqb a.offset 0) (eqb a.first 0 && eqb a.second 0) b in (
            eqb-true a.offset 0 (and_left (eqb a.offset 0) (eqb a.first 0 && eqb a.second 0) b),
            eqb-true a.first 0 (and_left (eqb a.first 0) (eqb a.second 0) c),
            eqb-true a.second 0 (and_right (eqb a.first 0) (eqb a.second 0) c),
          );
      refused_uncounted =
          λ n. eqb-true a.count 0 (second_of (eqb a.number 0) (eqb a.count 0) (and_left uncounted (placed && (one && two)) more) (ne_eqb a.number 0 n));
      unplaced = λ u. eqb-true a.offset 0 (second_of (not (is_unplaced a.number)) (eqb a.offset 0) (and_left placed (one && two) rest) (ap not u));
      first_character = λ f. eqb-true a.first 0 (second_of (has_character a.number) (eqb a.first 0) (and_left one two characters) f);
      second_character =
          λ n. eqb-true a.second 0 (second_of (eqb a.number 6) (eqb a.second 0) (and_right one two characters) (ne_eqb a.number 6 n));
    }

-- ---- A text

-- an answer's offset is at most this, its fields are those of its number, and its number is one of these
abbrev pub Fits : ℕ → List ℕ → Answer → Type 0
Fits len numbers answer = (answer.offset ≤ len) × ((is_whole answer && among answer.number numbers) ≡ true)

module _ (numbers : List ℕ) (a : Answer) (h : (is_whole a && among a.number numbers) ≡ true) where
  pub fits_whole : Whole a
  fits_whole = whole a (and_left (is_whole a) (among a.number numbers) h)

  pub fits_numbered : among a.number numbers ≡ true
  fits_numbered = and_right (is_whole a) (among a.number numbers) h

-- a check's does, if its walk's does
pub check_fits : (text numbers : List ℕ) → among 23 numbers ≡ true → among 25 numbers ≡ true → (version : ℕ) (walked : Answer)
    → Fits (length text) numbers walked → Fits (length text) numbers (check_text version text walked)
check_fits text numbers has_23 has_25 version walked h =
    in_any_case version text walked (Fits (length text) numbers) (omega arith, has_25) (λ place i. (omega arith, has_23)) h
