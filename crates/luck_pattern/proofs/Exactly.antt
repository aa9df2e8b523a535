-- When the answer is 39: exactly where the check has passed all items before a set that closes and has a reversed
-- range, at the first such range of that set; and which patterns are accepted with the test of ranges: those that are
-- accepted without it and of which no set has a reversed range.
-- Assumes nothing.
use Rattle.std.specs.Prelude.{Option, None, Some}
use Prim.Native.Nat.{ℕ, zero, suc, ◌+◌, ◌≤◌, ◌<◌}
use native.Mathlib.Omega.{arith}
use mathlib.Core.Path.{◌≡◌, refl, sym, ap, subst, ◌∙◌}
use mathlib.Core.Logic.{◌⊎◌, inl, inr, ⊎_elim, ◌↔◌}
use mathlib.Core.Bool.{Bool, true, false}
use mathlib.Core.List.{List, []}
use lib.ListN.{length}
use lib.Dec.{eqb, ltb}
use borrow.Author.Tests.{ltb-true}
use Rattle.luck_text.specs.Bytes.{when◌then◌else◌, byte_at}
use Rattle.luck_text.specs.Walk.{Turn, stop, goes, walk_from}
use Rattle.luck_text.proofs.Cases.{by_test, order}
use Rattle.luck_text.proofs.Walk.{walk_end, walk_stop, walk_goes}
use Rattle.luck_token.specs.Version.{is_version}
use Rattle.luck_utf8.specs.Utf8.{ill_formed}
use Rattle.luck_token.specs.Text.{after_version, after_utf8, after_text}
use Rattle.luck_answer.specs.Answer.{Answer, accepted, refused, refused_with, check_text}
use Rattle.luck_answer.proofs.Texts.{in_any_case}
use Rattle.luck_answer.proofs.Answers.{Stops, walk_every}
use Rattle.luck_pattern.specs.Captures.{close_latest, is_closed, all_closed}
use Rattle.luck_pattern.specs.Reading.{Head, at_open, at_close, at_percent, at_set, at_other, head_of, Escape, esc_digit, esc_balance, esc_frontier, esc_other, esc_end, escape_at, SetEnd, closes_at, cut_at, unclosed, first_member, set_end}
use Rattle.luck_pattern.specs.Pattern.{is_empty_set, Scanned, past, fault, onward, after_close, pattern_end, closed_as, reversed_of, set_as, set_read, escape_as, escape_read, head_turn, pattern_turn, pattern_walk, check_pattern_as}
use Rattle.luck_pattern.specs.Ranges.{item_reversed, Passed, at_start, one_more, FirstReversedSet, NoneReversed}
use Rattle.luck_pattern.proofs.Places.{ClosesFrom, first_behind, set_closes}
use Rattle.luck_pattern.proofs.Ranges.{tested, turn_tested, walk_or_39, same_or_39}

-- ---- A turn without the test: an item has a byte at least and lies in the text, and no fault is 39

module _ (pat : List ℕ) where
  abbrev Sane : ℕ → Turn (List Bool) Answer → Type 0
  Sane p (stop a) = a.number < 39
  Sane p (goes width captures) = (0 < width) × (p + width ≤ length pat)

  sane_past : (p : ℕ) (captures : List Bool) (q : ℕ) → p < q → q ≤ length pat → Sane p (onward p captures (past q))
  unfolding onward
  sane_past p captures q h k = (omega arith, omega arith)

  sane_fault : (p : ℕ) (captures : List Bool) (a : Answer) → a.number < 39 → Sane p (onward p captures (fault a))
  unfolding onward
  sane_fault p captures a h = h

  sane_set : (start p : ℕ) (captures : List Bool) → start ≤ p → (e : SetEnd) → ClosesFrom pat (first_member pat p) e
      → Sane start (onward start captures (set_as false pat p e))
  unfolding set_as closed_as reversed_of when◌then◌else◌
  sane_set start p captures h (closes_at e) c = let f = first_behind pat p in sane_past start captures (e + 1) (omega (arith, c.0)) (omega (arith, c.1))
  sane_set start p captures h (cut_at e) c = sane_fault start captures (refused 1 e) (omega arith)
  sane_set start p captures h unclosed c =
      by_test (λ (n : ℕ). Sane start (onward start captures (fault (refused n p)))) (is_empty_set pat p) _ _
      (λ t. sane_fault start captures (refused 9 p) (omega arith)) (λ t. sane_fault start captures (refused 8 p) (omega arith))

  abbrev There : Escape → Type 0
  There (esc_digit d) = Unit {0}
  There esc_balance = Unit {0}
  There esc_frontier = Unit {0}
  There esc_other = Unit {0}
  There esc_end = ⊥

  escape_there : (q : ℕ) (e : Escape) → escape_at pat q ≡ e → There e → q < length pat
  unfolding escape_at
  escape_there q e f t =
      by_test (λ (x : Escape). There x → q < length pat) (ltb q (length pat)) _ _ (λ h y. ltb-true q (length pat) h) (λ h y. absurd y) (subst There (sym f) t)

  sane_escape : (p : ℕ) (captures : List Bool) (e : Escape) → escape_at pat (p + 1) ≡ e
      → Sane p (onward p captures (escape_as false pat p captures e))
  unfolding escape_as set_read
  sane_escape p captures esc_end f = sane_fault p captures (refused 1 p) (omega arith)
  sane_escape p captures (esc_digit d) f =
      by_test (λ (r : Scanned). Sane p (onward p captures r)) (is_closed captures d) _ _
      (λ t. sane_past p captures (p + 2) (omega arith) (omega (arith, escape_there (p + 1) (esc_digit d) f tt)))
      (λ t. sane_fault p captures (refused 13 (p + 1)) (omega arith))
  sane_escape p captures esc_balance f =
      by_test (λ (r : Scanned). Sane p (onward p captures r)) (ltb (p + 3) (length pat)) _ _
      (λ t. sane_past p captures (p + 4) (omega arith) (omega (arith, ltb-true (p + 3) (length pat) t))) (λ t. sane_fault p captures (refused 1 p) (omega arith))
  sane_escape p captures esc_frontier f =
      by_test (λ (r : Scanned). Sane p (onward p captures r)) (eqb (byte_at pat (p + 2)) 91) _ _
      (λ t. sane_set p (p + 2) captures (omega arith) (set_end pat (p + 2)) (set_closes pat (p + 2))) (λ t. sane_fault p captures (refused_with 10 p 102) (omega arith))
  sane_escape p captures esc_other f = sane_past p captures (p + 2) (omega arith) (omega (arith, escape_there (p + 1) esc_other f tt))

  sane_close : (p : ℕ) → p < length pat → (o : Option (List Bool)) → Sane p (after_close p o)
  unfolding after_close
  sane_close p h None = omega arith
  sane_close p h (Some captures) = (omega arith, omega arith)

  sane_head : (p : ℕ) (captures : List Bool) → p < length pat → (h : Head) → Sane p (head_turn false pat p captures h)
  unfolding head_turn escape_read set_read
  sane_head p captures i at_open =
      by_test (Sane p) (ltb (length captures) 32) _ _ (λ t. (omega arith, omega arith)) (λ t. omega arith)
  sane_head p captures i at_close = sane_close p i (close_latest captures)
  sane_head p captures i at_percent = sane_escape p captures (escape_at pat (p + 1)) refl
  sane_head p captures i at_set = sane_set p p captures (omega arith) (set_end pat p) (set_closes pat p)
  sane_head p captures i at_other = (omega arith, omega arith)

  sane : (p : ℕ) (captures : List Bool) → p < length pat → Sane p (pattern_turn false pat p captures)
  unfolding pattern_turn
  sane p captures h = sane_head p captures h (head_of (byte_at pat p))

  -- ---- A turn with the test

  -- it goes on exactly where the turn without the test does, and the item has no reversed range
  pub goes_on : (p : ℕ) (captures : List Bool) (width : ℕ) (after : List Bool)
      → (pattern_turn true pat p captures ≡ goes width after) ↔ ((item_reversed pat p ≡ None) × (pattern_turn false pat p captures ≡ goes width after))
  unfolding tested
  goes_on p captures width after = (
    λ e. there (item_reversed pat p) refl (sym (turn_tested pat p captures) ∙ e),
    λ y. turn_tested pat p captures ∙ ap (λ o. tested o (pattern_turn false pat p captures)) y.0 ∙ y.1,
  )
    where
      there : (o : Option ℕ) → item_reversed pat p ≡ o
          → tested (item_reversed pat p) (pattern_turn false pat p captures) ≡ goes width after
          → (item_reversed pat p ≡ None) × (pattern_turn false pat p captures ≡ goes width after)
      there None e f = (e, sym (ap (λ o. tested o (pattern_turn false pat p captures)) e) ∙ f)
      there (Some k) e f =
          let g : ◌≡◌ {A = Turn (List Bool) Answer} (stop (refused 39 k)) (goes width after) = sym (ap (λ o. tested o (pattern_turn false pat p captures)) e) ∙ f in
          let z : ◌≡◌ {A = ℕ} 0 1 = cc in absurd (omega arith)

  -- it is 39 exactly at the item's first reversed range
  pub is_39 : (p : ℕ) (captures : List Bool) (k : ℕ) → p < length pat
      → (pattern_turn true pat p captures ≡ stop (refused 39 k)) ↔ (item_reversed pat p ≡ Some k)
  unfolding tested
  is_39 p captures k h = (
    λ e. there (item_reversed pat p) refl (sym (turn_tested pat p captures) ∙ e),
    λ e. turn_tested pat p captures ∙ ap (λ o. tested o (pattern_turn false pat p captures)) e,
  )
    where
      there : (o : Option ℕ) → item_reversed pat p ≡ o
          → tested (item_reversed pat p) (pattern_turn false pat p captures) ≡ stop (refused 39 k)
          → item_reversed pat p ≡ Some k
      there None e f =
          let g : pattern_turn false pat p captures ≡ stop (refused 39 k) = sym (ap (λ o. tested o (pattern_turn false pat p captures)) e) ∙ f in
          let s : Sane p (stop (refused 39 k)) = subst (Sane p) g (sane p captures h) in absurd (omega arith)
      there (Some j) e f =
          let g : ◌≡◌ {A = Turn (List Bool) Answer} (stop (refused 39 j)) (stop (refused 39 k)) = sym (ap (λ o. tested o (pattern_turn false pat p captures)) e) ∙ f in
          let a : refused 39 j ≡ refused 39 k = cc in
          e ∙ ap Some (ap (λ (x : Answer). x.offset) a)

-- ---- What is passed before a place

module _ (pat : List ℕ) where
  -- with the test no fewer items are looked at: what is passed with it is passed without it
  pub passed_without : {p : ℕ} {captures : List Bool} → Passed true pat p captures → Passed false pat p captures
  passed_without at_start = at_start
  passed_without (one_more {p} {width} {before} {after} q h e) = one_more (passed_without q) h ((goes_on pat p before width after).0 e).1

  abbrev From : ℕ → List Bool → Answer
  From p captures = walk_from (pattern_turn true pat) (pattern_end pat) (length pat) p captures

  wide : (p : ℕ) (before : List Bool) (width : ℕ) (after : List Bool) → p < length pat
      → pattern_turn true pat p before ≡ goes width after → (0 < width) × (p + width ≤ length pat)
  wide p before width after h e = subst (Sane pat p) ((goes_on pat p before width after).0 e).1 (sane pat p before h)

  -- what was passed does not alter the answer
  passed_walk : {p : ℕ} {captures : List Bool} → Passed true pat p captures → From 0 [] ≡ From p captures
  passed_walk at_start = refl
  passed_walk (one_more {p} {width} {before} {after} q h e) =
      let w = wide p before width after h e in
      passed_walk q ∙ walk_goes (pattern_turn true pat) (pattern_end pat) (length pat) p before width after w.0 w.1 e

  -- where the walk ends: at a turn that stops, or behind the last item
  record Ended : Type 0 where
    pub at : ℕ
    pub captures : List Bool
    pub passed : Passed true pat at captures
    pub how : ((at < length pat) × (a : Answer) × (pattern_turn true pat at captures ≡ stop a)) ⊎ (length pat ≤ at)

  ended : (n p : ℕ) (captures : List Bool) → length pat ≤ p + n → Passed true pat p captures → Ended
  ended zero p captures h q = record { at = p; captures = captures; passed = q; how = inr (omega arith) }
  ended (suc n) p captures h q =
      ⊎_elim (λ l. go l (pattern_turn true pat p captures) refl (λ q captures. ended n q captures)) (λ l. record { at = p; captures = captures; passed = q; how = inr l }) (order p (length pat))
    where
      go : p < length pat → (t : Turn (List Bool) Answer) → pattern_turn true pat p captures ≡ t
          → ((q : ℕ) (captures : List Bool) → length pat ≤ q + n → Passed true pat q captures → Ended) → Ended
      go l (stop a) e rest = record { at = p; captures = captures; passed = q; how = inl (l, a, e) }
      go l (goes width after) e rest = let w = wide p captures width after l e in rest (p + width) after (omega arith) (one_more q l e)

  -- ---- 39

  end_number : (p : ℕ) (captures : List Bool) → (pattern_end pat p captures).number < 39
  unfolding pattern_end
  end_number p captures = by_test (λ (a : Answer). a.number < 39) (all_closed captures) _ _ (λ t. omega arith) (λ t. omega arith)

  turn_number : (p : ℕ) (t : Turn (List Bool) Answer) → Sane pat p t → Stops (λ (a : Answer). a.number < 39) t
  turn_number p (stop a) s = s
  turn_number p (goes width captures) s = tt

  -- without the test no answer is 39
  walk_number : (pattern_walk false pat).number < 39
  unfolding pattern_walk
  walk_number =
      walk_every (pattern_turn false pat) (pattern_end pat) (length pat) (λ (a : Answer). a.number < 39)
      (λ p captures h. turn_number p (pattern_turn false pat p captures) (sane pat p captures h)) end_number 0 []

  pub walk_39 : (k : ℕ) → (pattern_walk true pat ≡ refused 39 k) ↔ FirstReversedSet pat k
  unfolding pattern_walk
  walk_39 k = (λ e. go e (ended (length pat) 0 [] (omega arith) at_start), λ y. back y)
    where
      go : From 0 [] ≡ refused 39 k → Ended → FirstReversedSet pat k
      go e y =
          ⊎_elim
          (λ x.
          let same : x.1 ≡ refused 39 k = sym (walk_stop (pattern_turn true pat) (pattern_end pat) (length pat) y.at y.captures x.1 x.0 x.2) ∙ sym (passed_walk y.passed) ∙ e in
          record {
            place = y.at;
            captures = y.captures;
            passed = y.passed;
            in_text = x.0;
            found = (is_39 pat y.at y.captures k x.0).0 (x.2 ∙ ap stop same);
          })
          (λ l.
          let same : pattern_end pat y.at y.captures ≡ refused 39 k = sym (walk_end (pattern_turn true pat) (pattern_end pat) (length pat) y.at y.captures l) ∙ sym (passed_walk y.passed) ∙ e in
          let number : (pattern_end pat y.at y.captures).number ≡ 39 = ap (λ (a : Answer). a.number) same in
          absurd (omega (arith, end_number y.at y.captures)))
          y.how

      back : FirstReversedSet pat k → From 0 [] ≡ refused 39 k
      back y =
          passed_walk y.passed
          ∙ walk_stop (pattern_turn true pat) (pattern_end pat) (length pat) y.place y.captures (refused 39 k) y.in_text ((is_39 pat y.place y.captures k y.in_text).1 y.found)

  -- ---- Accepted with the test

  -- the walk with the test is not 39
  not_39 : ((k : ℕ) → FirstReversedSet pat k → ⊥) → {p : ℕ} {captures : List Bool} → Passed false pat p captures
      → Passed true pat p captures
  not_39 n at_start = at_start
  not_39 n (one_more {p} {width} {before} {after} q h e) = step (not_39 n q) (item_reversed pat p) refl
    where
      step : Passed true pat p before → (o : Option ℕ) → item_reversed pat p ≡ o → Passed true pat (p + width) after
      step q None f = one_more q h ((goes_on pat p before width after).1 (f, e))
      step q (Some k) f = absurd (n k (record { place = p; captures = before; passed = q; in_text = h; found = f }))

  pub none_first : ((k : ℕ) → FirstReversedSet pat k → ⊥) → NoneReversed pat
  none_first n p captures q h = go (item_reversed pat p) refl
    where
      go : (o : Option ℕ) → item_reversed pat p ≡ o → item_reversed pat p ≡ None
      go None f = f
      go (Some k) f = absurd (n k (record { place = p; captures = captures; passed = not_39 n q; in_text = h; found = f }))

  pub walk_accepted : (n : ℕ)
      → (pattern_walk true pat ≡ accepted n) ↔ ((pattern_walk false pat ≡ accepted n) × NoneReversed pat)
  walk_accepted n = (
    λ e.
        (⊎_elim (λ same. sym same ∙ e) (λ y. never n y.0 e y.2) (walk_or_39 pat), none_first (λ k y. never n k e ((walk_39 k).1 y))),
    λ y.
        ⊎_elim (λ same. same ∙ y.0)
        (λ r.
        let f = (walk_39 r.0).0 r.2 in
        let g : None ≡ Some r.0 = sym (y.1 f.place f.captures (passed_without f.passed) f.in_text) ∙ f.found in
        let z : ◌≡◌ {A = ℕ} 0 1 = cc in absurd (omega arith))
        (walk_or_39 pat),
  )
    where
      never : {X : Type 0} (n k : ℕ) → pattern_walk true pat ≡ accepted n → pattern_walk true pat ≡ refused 39 k → X
      never n k e f = let z : ◌≡◌ {A = ℕ} 0 39 = ap (λ (a : Answer). a.number) (sym e ∙ f) in absurd (omega arith)

-- ---- The check

module _ (version : ℕ) (pat : List ℕ) where
  -- what the check of a text says of its walk, where the answer is neither 25 nor 23
  text_gives : (walked a : Answer) → (a.number ≡ 25 → ⊥) → (a.number ≡ 23 → ⊥)
      → (check_text version pat walked ≡ a) ↔ ((is_version version ≡ true) × (ill_formed pat ≡ None) × (walked ≡ a))
  unfolding check_text after_text after_version after_utf8 when◌then◌else◌
  text_gives walked a n25 n23 = (
    λ e. there (is_version version) (ill_formed pat) refl refl e,
    λ y. rw (y.0, y.1) y.2,
  )
    where
      there : (v : Bool) (o : Option ℕ) → is_version version ≡ v → ill_formed pat ≡ o
          → (when v then after_utf8 refused o walked else refused 25 0) ≡ a
          → (is_version version ≡ true) × (ill_formed pat ≡ None) × (walked ≡ a)
      there true None e f g = (e, f, g)
      there true (Some place) e f g = absurd (n23 (sym (ap (λ (x : Answer). x.number) g)))
      there false o e f g = absurd (n25 (sym (ap (λ (x : Answer). x.number) g)))

  -- 39 at k exactly where the version and the text are fine and the first set that has a reversed range, before which
  -- nothing is at fault, has its first at k
  pub check_39 : (k : ℕ)
      → (check_pattern_as true version pat ≡ refused 39 k) ↔ ((is_version version ≡ true) × (ill_formed pat ≡ None) × FirstReversedSet pat k)
  unfolding check_pattern_as
  check_39 k =
      let gives = text_gives (pattern_walk true pat) (refused 39 k) (λ e. omega arith) (λ e. omega arith) in
      (λ e. let y = gives.0 e in (y.0, y.1, (walk_39 pat k).0 y.2), λ y. gives.1 (y.0, y.1, (walk_39 pat k).1 y.2))

  -- accepted with the test exactly where it is accepted without, with the same count, and no set has a reversed range
  pub check_accepted : (n : ℕ)
      → (check_pattern_as true version pat ≡ accepted n) ↔ ((check_pattern_as false version pat ≡ accepted n) × NoneReversed pat)
  unfolding check_pattern_as
  check_accepted n =
      let gives = text_gives (pattern_walk true pat) (accepted n) (λ e. omega arith) (λ e. omega arith) in
      let without = text_gives (pattern_walk false pat) (accepted n) (λ e. omega arith) (λ e. omega arith) in (
        λ e. let y = gives.0 e in let w = (walk_accepted pat n).0 y.2 in (without.1 (y.0, y.1, w.0), w.1),
        λ y. let x = without.0 y.0 in gives.1 (x.0, x.1, (walk_accepted pat n).1 (x.2, y.1)),
      )

  -- without the test the answer is never 39
  untested_number : (check_pattern_as false version pat).number < 39
  unfolding check_pattern_as
  untested_number =
      in_any_case version pat (pattern_walk false pat) (λ (a : Answer). a.number < 39) (omega arith) (λ place h. omega arith) (walk_number pat)

  -- it is not 39 exactly where the version or the text is refused, or no item has a reversed range
  pub check_not_39 : ((check_pattern_as true version pat).number ≡ 39 → ⊥) ↔ (is_version version ≡ true → ill_formed pat ≡ None → NoneReversed pat)
  check_not_39 = (
    λ n v u. none_first pat (λ k f. n (ap (λ (a : Answer). a.number) ((check_39 k).1 (v, u, f)))),
    λ fine e.
        ⊎_elim (λ same. absurd (omega (arith, untested_number, ap (λ (a : Answer). a.number) same)))
        (λ r.
        let y = (check_39 r.0).0 r.2 in
        let f = y.2 in
        let g : None ≡ Some r.0 = sym (fine y.0 y.1 f.place f.captures (passed_without pat f.passed) f.in_text) ∙ f.found in
        let z : ◌≡◌ {A = ℕ} 0 1 = cc in absurd (omega arith))
        (same_or_39 version pat),
  )

  -- so where no item has one, the test changes nothing
  pub check_as_before : NoneReversed pat → check_pattern_as true version pat ≡ check_pattern_as false version pat
  check_as_before fine =
      ⊎_elim (λ same. same) (λ r. absurd (check_not_39.1 (λ v u. fine) (ap (λ (a : Answer). a.number) r.2))) (same_or_39 version pat)
