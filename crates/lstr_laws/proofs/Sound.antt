-- From items that are well formed after the captures so far, no attempt raises, and a match has all its captures, closed.
-- Assumes nothing.
use Rattle.std.specs.Prelude.{Option, None, Some}
use Prim.Native.Nat.{ℕ, zero, suc, ◌-◌, ◌<◌}
use native.Mathlib.Omega.{arith}
use mathlib.Core.Path.{◌≡◌, refl, sym, ap, subst, ◌∙◌}
use mathlib.Core.Bool.{Bool, true, false, ◌&&◌, true≢false}
use mathlib.Core.List.{List, [], ◌∷◌, ◌++◌}
use lib.ListN.{length, get_or, set}
use lib.Dec.{eqb, leb, ltb}
use borrow.Author.Tests.{ltb-true, ltb-false, le-leb}
use Rattle.luck_text.proofs.Cases.{by_test, and_left, and_right, both_true}
use Rattle.luck_pattern.specs.Captures.{latest_open, close_at, close_latest, is_closed}
use Rattle.luck_pattern.specs.Items.{
  Item,
  start_capture,
  position_capture,
  end_capture,
  end_anchor,
  balance,
  frontier,
  back_reference,
  single,
  raises,
}
use Rattle.lstr_item.specs.Match.{Capture, opened, position, closed, start_of, is_finished, flags_of, capture_to_close, Outcome, Rest, do_start_capture, do_end_capture, match_capture, do_back_reference, do_item, match}
pub use Rattle.lstr_laws.proofs.WellFormed.{AllClosed, WellFormed}
use Rattle.lstr_laws.proofs.Attempts.{AttemptFine, Kept, due_kept, level_kept, single_kept, balance_kept, frontier_kept, closed_kept}

-- ---- The captures and their flags

pub length_flags : (cs : List Capture) → length (flags_of cs) ≡ length cs
length_flags [] = refl
length_flags (c ∷ cs) = ap suc (length_flags cs)

flags_append : (cs : List Capture) (c : Capture) → flags_of (cs ++ (c ∷ [])) ≡ flags_of cs ++ (is_finished c ∷ [])
flags_append [] c = refl
flags_append (x ∷ cs) c = ap {B = List Bool} (λ r. is_finished x ∷ r) (flags_append cs c)

pub flags_get_or : (cs : List Capture) (i : ℕ) → get_or (flags_of cs) i false ≡ is_finished (get_or cs i (opened 0))
flags_get_or [] i = refl
flags_get_or (x ∷ cs) zero = refl
flags_get_or (x ∷ cs) (suc i) = flags_get_or cs i

pub flag_inside : (flags : List Bool) (i : ℕ) → get_or flags i false ≡ true → i < length flags
flag_inside [] i e = absurd (true≢false (sym e))
flag_inside (f ∷ flags) zero e = omega arith
flag_inside (f ∷ flags) (suc i) e = let h = flag_inside flags i e in omega arith

-- where the flags have a capture to close, so have the captures, and it is the same
record Closing (cs : List Capture) (after : List Bool) : Type 0 where
  pub at : ℕ
  pub found : capture_to_close cs ≡ Some at
  pub flags : (start n : ℕ) → flags_of (set cs at (closed start n)) ≡ after

flags_set : (cs : List Capture) (i : ℕ) (c : Capture) → flags_of (set cs i c) ≡ set (flags_of cs) i (is_finished c)
flags_set [] i c = refl
flags_set (x ∷ cs) zero c = refl
flags_set (x ∷ cs) (suc i) c = ap {B = List Bool} (λ r. is_finished x ∷ r) (flags_set cs i c)

close_found : (cs : List Capture) (after : List Bool) → close_latest (flags_of cs) ≡ Some after → Closing cs after
unfolding close_latest capture_to_close
close_found cs after e = go (latest_open (flags_of cs)) refl e
  where
    go : (o : Option ℕ) → latest_open (flags_of cs) ≡ o → close_at (flags_of cs) o ≡ Some after → Closing cs after
    go None p q = let z : ◌≡◌ {A = ℕ} 0 1 = cc in absurd (omega arith)
    go (Some i) p q = let s : set (flags_of cs) i true ≡ after = cc in record { at = i; found = p; flags = λ start n. flags_set cs i (closed start n) ∙ s }

-- ---- An attempt

-- not raised
abbrev pub NotRaised : ℕ → ℕ → ℕ → Type 0
NotRaised number kind u = number ≡ 29 → ⊥

module _ (in_class : ℕ → ℕ → Bool) (sub : List ℕ) (budget n : ℕ) where
  abbrev U : ℕ → Type 0
  U u = Unit {0}

  -- wrapped, so that the outcome it is said of can be read off
  pub record Sound (o : Outcome) : Type 0 where
    pub holds : AttemptFine U NotRaised (λ cs. AllClosed n (flags_of cs)) o

  abbrev kept : Kept budget Sound U
  kept =
      record {
        more = λ u h l. tt;
        steps_spent = λ u h b. record { holds = (tt, λ e. omega arith) };
        too_deep = λ u h. record { holds = (tt, λ e. omega arith) };
        fails = λ u h. record { holds = tt };
        after_failure = λ u h. tt;
      }

  module _ (rest : Rest) where
    start_sound : (c : Capture) (s l : ℕ) (cs : List Capture) (u : ℕ) → length cs < 32 → ((m : ℕ) → Sound (rest s m (cs ++ (c ∷ [])) u))
        → Sound (do_start_capture c rest s l cs u)
    unfolding do_start_capture
    start_sound c s l cs u h on =
        by_test Sound (ltb (length cs) 32) _ _ (λ t. level_kept in_class sub budget Sound U kept l u _ tt on)
        (λ t. absurd (omega (arith, ltb-false (length cs) 32 t)))

    end_sound : (i s l : ℕ) (cs : List Capture) (u : ℕ) → ((m start k : ℕ) → Sound (rest s m (set cs i (closed start k)) u))
        → (o : Option ℕ) → o ≡ Some i → Sound (do_end_capture o rest s l cs u)
    unfolding do_end_capture
    end_sound i s l cs u on None e = let z : ◌≡◌ {A = ℕ} 0 1 = cc in absurd (omega arith)
    end_sound i s l cs u on (Some j) e =
        let q : i ≡ j = cc in
        let start = start_of (get_or cs j (opened 0)) in
        level_kept in_class sub budget Sound U kept l u _ tt
        (λ m. subst (λ (k : ℕ). Sound (rest s m (set cs k (closed start (s - start))) u)) q (on m start (s - start)))

    reference_sound : (c : Capture) → is_finished c ≡ true → (s l : ℕ) (cs : List Capture) (u : ℕ) → ((s l u : ℕ) → U u → Sound (rest s l cs u))
        → Sound (match_capture sub c rest s l cs u)
    unfolding match_capture
    reference_sound (opened start) e s l cs u on = absurd (true≢false (sym e))
    reference_sound (position start) e s l cs u on = record { holds = tt }
    reference_sound (closed start k) e s l cs u on = closed_kept in_class sub budget Sound U kept rest cs on start k s l u tt

  -- a capture that may be referred to is there, and closed
  reference_fine : (cs : List Capture) (d : ℕ) → is_closed (flags_of cs) d ≡ true → (is_finished (get_or cs (d - 1) (opened 0)) ≡ true) × ((ltb 0 d && leb d (length cs)) ≡ true)
  unfolding is_closed
  reference_fine cs d e =
      let first = and_left (ltb 0 d) (get_or (flags_of cs) (d - 1) false) e in
      let shut = and_right (ltb 0 d) (get_or (flags_of cs) (d - 1) false) e in
      let inside = flag_inside (flags_of cs) (d - 1) shut in
      (sym (flags_get_or cs (d - 1)) ∙ shut, both_true (ltb 0 d) (leb d (length cs)) first (le-leb d (length cs) (omega (arith, ltb-true 0 d first, length_flags cs))))

  back_sound : (rest : Rest) (d : ℕ) (cs : List Capture) → is_closed (flags_of cs) d ≡ true → (s l u : ℕ) → ((s l u : ℕ) → U u → Sound (rest s l cs u))
      → Sound (do_back_reference sub d rest s l cs u)
  unfolding do_back_reference
  back_sound rest d cs w s l u on =
      let fine = reference_fine cs d w in
      by_test Sound _ _ _ (λ t. reference_sound rest _ fine.0 s l cs u on) (λ t. absurd (true≢false (sym fine.1 ∙ t)))

  item_sound : (i : Item) (is : List Item) (cs : List Capture) → WellFormed (i ∷ is) (flags_of cs) n
      → ((cs : List Capture) → WellFormed is (flags_of cs) n → (s l u : ℕ) → U u → Sound (match in_class sub budget is s l cs u))
      → (s l u : ℕ) → Sound (do_item in_class sub budget i (match in_class sub budget is) s l cs u)
  unfolding do_item
  item_sound start_capture is cs w on s l u =
      start_sound (match in_class sub budget is) (opened s) s l cs u (omega (arith, w.0, length_flags cs))
      (λ m. on (cs ++ (opened s ∷ [])) (rw flags_append w.1) s m u tt)
  item_sound position_capture is cs w on s l u =
      start_sound (match in_class sub budget is) (position s) s l cs u (omega (arith, w.0, length_flags cs))
      (λ m. on (cs ++ (position s ∷ [])) (rw flags_append w.1) s m u tt)
  item_sound end_capture is cs w on s l u =
      let found = close_found cs w.0 w.1 in
      end_sound (match in_class sub budget is) found.at s l cs u
      (λ m start k. on (set cs found.at (closed start k)) (subst (λ flags. WellFormed is flags n) (sym (found.flags start k)) w.2) s m u tt)
      (capture_to_close cs) found.found
  item_sound end_anchor is cs w on s l u = by_test Sound (eqb s (length sub)) _ _ (λ t. record { holds = (tt, w) }) (λ t. record { holds = tt })
  item_sound (balance x y) is cs w on s l u = balance_kept in_class sub budget Sound U kept (match in_class sub budget is) cs (on cs w) x y s l u tt
  item_sound (frontier x) is cs w on s l u = frontier_kept in_class sub budget Sound U kept (match in_class sub budget is) cs (on cs w) x s l u tt
  item_sound (back_reference d) is cs w on s l u = back_sound (match in_class sub budget is) d cs w.0 s l u (on cs w.1)
  item_sound (single x r) is cs w on s l u = single_kept in_class sub budget Sound U kept (match in_class sub budget is) cs (on cs w) x r s l u tt
  item_sound (raises kind) is cs w on s l u = absurd w

  pub match_sound : (is : List Item) (cs : List Capture) → WellFormed is (flags_of cs) n → (s l u : ℕ) → U u → Sound (match in_class sub budget is s l cs u)
  unfolding match
  match_sound [] cs w s l u h = due_kept in_class sub budget Sound U kept u _ h (λ v t. record { holds = (tt, w) })
  match_sound (i ∷ is) cs w s l u h = due_kept in_class sub budget Sound U kept u _ h (λ v t. item_sound i is cs w (λ cs w. match_sound is cs w) s l v)
