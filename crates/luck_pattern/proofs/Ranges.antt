-- The check of patterns with its test of ranges and without: a turn with the test is the turn without it, or 39 at the
-- item's first reversed range; so the answers are the same, or 39 at a place inside the text, and what is accepted with
-- the test is accepted without it, with the same count.
-- Assumes nothing.
use Rattle.std.specs.Prelude.{Option, None, Some}
use Prim.Native.Nat.{ℕ, zero, suc, ◌+◌, ◌-◌}
use native.Mathlib.Omega.{arith}
use mathlib.Core.Path.{◌≡◌, refl, sym, ap, ◌∙◌}
use mathlib.Core.Logic.{◌⊎◌, inl, inr, ⊎_elim}
use mathlib.Core.Bool.{Bool, true, false}
use mathlib.Core.List.{List, []}
use lib.ListN.{length}
use lib.Dec.{eqb}
use Rattle.luck_text.specs.Bytes.{when◌then◌else◌, byte_at}
use Rattle.luck_text.specs.Walk.{Turn, stop, goes, walk, walk_from}
use Rattle.luck_token.specs.Version.{is_version}
use Rattle.luck_utf8.specs.Utf8.{ill_formed}
use Rattle.luck_token.specs.Text.{after_version, after_utf8, after_text}
use Rattle.luck_answer.specs.Answer.{Answer, accepted, refused, check_text}
use Rattle.luck_pattern.specs.Reading.{Head, at_open, at_close, at_percent, at_set, at_other, head_of, Escape, esc_digit, esc_balance, esc_frontier, esc_other, esc_end, escape_at, SetEnd, closes_at, cut_at, unclosed, first_member, set_end}
use Rattle.luck_pattern.specs.Pattern.{fault, onward, pattern_end, closed_as, reversed_of, set_as, set_read, escape_as, escape_read, head_turn, pattern_turn, pattern_walk, check_pattern_as}
use Rattle.luck_pattern.specs.Ranges.{escape_set, head_set, item_set, reversed_before, reversed_set, item_reversed, RangeAt}
use Rattle.luck_pattern.proofs.Places.{ClosesFrom, set_closes}
use Rattle.luck_pattern.specs.Elements.{first_reversed}
use Rattle.luck_pattern.proofs.Elements.{some_reversed}

-- ---- A turn

-- a turn of the check without the test, after the test
unfoldable pub tested : Option ℕ → Turn (List Bool) Answer → Turn (List Bool) Answer
tested None turn = turn
tested (Some left) turn = stop (refused 39 left)

module _ (pat : List ℕ) where
  -- the set's `[` stands at p, and the item that has it at start
  set_tested : (start p : ℕ) (captures : List Bool) (e : SetEnd)
      → onward start captures (set_as true pat p e) ≡ tested (reversed_before pat p e) (onward start captures (set_as false pat p e))
  unfolding set_as reversed_of reversed_before tested when◌then◌else◌
  set_tested start p captures (closes_at e) = go (first_reversed pat e (first_member pat p))
    where
      go : (o : Option ℕ) → onward start captures (closed_as e o) ≡ tested o (onward start captures (closed_as e None))
      go None = refl
      go (Some left) = unfold closed_as onward in refl
  set_tested start p captures (cut_at e) = refl
  set_tested start p captures unclosed = refl

  escape_tested : (p : ℕ) (captures : List Bool) (e : Escape)
      → onward p captures (escape_as true pat p captures e) ≡ tested (reversed_set pat (escape_set pat p e)) (onward p captures (escape_as false pat p captures e))
  unfolding escape_as escape_set reversed_set tested set_read when◌then◌else◌
  escape_tested p captures esc_end = refl
  escape_tested p captures (esc_digit d) = refl
  escape_tested p captures esc_balance = refl
  escape_tested p captures esc_frontier = go (eqb (byte_at pat (p + 2)) 91) (set_tested p (p + 2) captures (set_end pat (p + 2)))
    where
      go : (b : Bool)
          → onward p captures (set_as true pat (p + 2) (set_end pat (p + 2))) ≡ tested (reversed_before pat (p + 2) (set_end pat (p + 2))) (onward p captures (set_as false pat (p + 2) (set_end pat (p + 2))))
          → onward p captures (when b then set_as true pat (p + 2) (set_end pat (p + 2)) else fault (record { number = 10; offset = p; first = 102; second = 0; count = 0 }))
          ≡ tested (reversed_set pat (when b then Some (p + 2) else None)) (onward p captures (when b then set_as false pat (p + 2) (set_end pat (p + 2)) else fault (record { number = 10; offset = p; first = 102; second = 0; count = 0 })))
      go true same = same
      go false same = refl
  escape_tested p captures esc_other = refl

  head_tested : (p : ℕ) (captures : List Bool) (h : Head)
      → head_turn true pat p captures h ≡ tested (reversed_set pat (head_set pat p h)) (head_turn false pat p captures h)
  unfolding head_turn head_set reversed_set tested set_read escape_read
  head_tested p captures at_open = refl
  head_tested p captures at_close = refl
  head_tested p captures at_percent = escape_tested p captures (escape_at pat (p + 1))
  head_tested p captures at_set = set_tested p p captures (set_end pat p)
  head_tested p captures at_other = refl

  -- a turn with the test is the turn without it, or 39 at the item's first reversed range
  pub turn_tested : (p : ℕ) (captures : List Bool)
      → pattern_turn true pat p captures ≡ tested (item_reversed pat p) (pattern_turn false pat p captures)
  unfolding pattern_turn item_reversed item_set
  turn_tested p captures = head_tested p captures (head_of (byte_at pat p))

  -- ---- Where a reversed range stands

  reversed_in_set : (p k : ℕ) (e : SetEnd) → ClosesFrom pat (first_member pat p) e → reversed_before pat p e ≡ Some k
      → RangeAt pat k
  unfolding reversed_before
  reversed_in_set p k (closes_at e) c f =
      let at = some_reversed pat e (first_member pat p) k f in
      record { inside = omega (arith, at.inside, c.1); hyphen = at.hyphen; reversed = at.reversed }
  reversed_in_set p k (cut_at e) c f = let z : ◌≡◌ {A = ℕ} 0 1 = cc in absurd (omega arith)
  reversed_in_set p k unclosed c f = let z : ◌≡◌ {A = ℕ} 0 1 = cc in absurd (omega arith)

  set_reversed : (o : Option ℕ) (k : ℕ) → reversed_set pat o ≡ Some k → RangeAt pat k
  unfolding reversed_set
  set_reversed None k f = let z : ◌≡◌ {A = ℕ} 0 1 = cc in absurd (omega arith)
  set_reversed (Some p) k f = reversed_in_set p k (set_end pat p) (set_closes pat p) f

  pub item_reversed_lem : (p k : ℕ) → item_reversed pat p ≡ Some k → RangeAt pat k
  unfolding item_reversed
  item_reversed_lem p k f = set_reversed (item_set pat p) k f

-- ---- The walk

-- two walks whose turns are the same until the first stops with an answer of which P holds
module _ {S A : Type 0} (first second : ℕ → S → Turn S A) (ends : ℕ → S → A) (P : A → Type 0)
    (alike : (p : ℕ) (s : S) → (first p s ≡ second p s) ⊎ ((a : A) × (first p s ≡ stop a) × P a)) where
  abbrev Alike : ℕ → ℕ → ℕ → S → Type 0
  Alike n k p s = (walk first ends n k p s ≡ walk second ends n k p s) ⊎ P (walk first ends n k p s)

  lockstep : (n k p : ℕ) (s : S) → Alike n k p s
  unfolding walk
  lockstep zero k p s = inl refl
  lockstep (suc n) (suc k) p s = lockstep n k (suc p) s
  lockstep (suc n) zero p s = ⊎_elim (λ e. go (λ w s'. lockstep n (w - 1) (suc p) s') (second p s) refl e) (λ y. inr (stopped y.0 y.1 y.2)) (alike p s)
    where
      stopped : (a : A) → first p s ≡ stop a → P a → P (walk first ends (suc n) 0 p s)
      stopped a e h = rw (e, walk) h

      go : ((w : ℕ) (s' : S) → Alike n (w - 1) (suc p) s') → (t : Turn S A) → second p s ≡ t → first p s ≡ second p s
          → Alike (suc n) 0 p s
      go rest (stop a) e f = let g : first p s ≡ stop a = f ∙ e in rw (g, e, walk, walk) (inl refl)
      go rest (goes w s') e f = let g : first p s ≡ goes w s' = f ∙ e in rw (g, e, walk, walk) (rest w s')

  pub walks_alike : (len p : ℕ) (s : S)
      → (walk_from first ends len p s ≡ walk_from second ends len p s) ⊎ P (walk_from first ends len p s)
  unfolding walk_from
  walks_alike len p s = lockstep (len - p) 0 p s

-- 39, at the left byte of a reversed range inside the text
abbrev pub Reversed : List ℕ → Answer → Type 0
Reversed pat a = (k : ℕ) × RangeAt pat k × (a ≡ refused 39 k)

module _ (pat : List ℕ) where
  turns_alike : (p : ℕ) (captures : List Bool)
      → (pattern_turn true pat p captures ≡ pattern_turn false pat p captures) ⊎ ((a : Answer) × (pattern_turn true pat p captures ≡ stop a) × Reversed pat a)
  unfolding tested
  turns_alike p captures = go (item_reversed pat p) refl (turn_tested pat p captures)
    where
      go : (o : Option ℕ) → item_reversed pat p ≡ o
          → pattern_turn true pat p captures ≡ tested (item_reversed pat p) (pattern_turn false pat p captures)
          → (pattern_turn true pat p captures ≡ pattern_turn false pat p captures) ⊎ ((a : Answer) × (pattern_turn true pat p captures ≡ stop a) × Reversed pat a)
      go None e f = inl (f ∙ ap (λ o. tested o (pattern_turn false pat p captures)) e)
      go (Some k) e f = inr (refused 39 k, f ∙ ap (λ o. tested o (pattern_turn false pat p captures)) e, (k, item_reversed_lem pat p k e, refl))

  pub walk_or_39 : (pattern_walk true pat ≡ pattern_walk false pat) ⊎ Reversed pat (pattern_walk true pat)
  unfolding pattern_walk
  walk_or_39 = walks_alike (pattern_turn true pat) (pattern_turn false pat) (pattern_end pat) (Reversed pat) turns_alike (length pat) 0 []

-- ---- The check

module _ (version : ℕ) (pat : List ℕ) where
  text_or : (a b : Answer) → (a ≡ b) ⊎ Reversed pat a
      → (check_text version pat a ≡ check_text version pat b) ⊎ Reversed pat (check_text version pat a)
  unfolding check_text after_text after_version after_utf8 when◌then◌else◌
  text_or a b (inl e) = inl (ap (check_text version pat) e)
  text_or a b (inr y) = go (is_version version) (ill_formed pat)
    where
      go : (v : Bool) (o : Option ℕ)
          → ((when v then after_utf8 refused o a else refused 25 0) ≡ (when v then after_utf8 refused o b else refused 25 0)) ⊎ Reversed pat (when v then after_utf8 refused o a else refused 25 0)
      go false o = inl refl
      go true None = inr y
      go true (Some place) = inl refl

  -- with the test the check answers what it answers without, or 39 at a place inside the text
  pub same_or_39 : (check_pattern_as true version pat ≡ check_pattern_as false version pat) ⊎ Reversed pat (check_pattern_as true version pat)
  unfolding check_pattern_as
  same_or_39 = text_or (pattern_walk true pat) (pattern_walk false pat) (walk_or_39 pat)

  -- what is accepted, with or without the test, is accepted without it, with the same count
  pub accepted_without : (ranges : Bool) (n : ℕ) → check_pattern_as ranges version pat ≡ accepted n
      → check_pattern_as false version pat ≡ accepted n
  accepted_without false n ok = ok
  accepted_without true n ok =
      ⊎_elim (λ e. sym e ∙ ok) (λ y. let z : ◌≡◌ {A = ℕ} 39 0 = ap (λ (a : Answer). a.number) (sym y.2 ∙ ok) in absurd (omega arith)) same_or_39
