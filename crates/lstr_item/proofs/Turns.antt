-- Laws of matching from a place of the pattern on: levels, and a turn for each item.
-- Assumes nothing.
use Rattle.std.specs.Prelude.{None, Some}
use Prim.Native.Nat.{ℕ, ◌+◌, ◌≤◌, ◌<◌}
use native.Mathlib.Omega.{arith}
use mathlib.Core.Path.{◌≡◌, refl, sym, ap, ◌∙◌}
use mathlib.Core.Bool.{Bool, true, false}
use mathlib.Core.List.{List, [], ◌∷◌}
use lib.ListN.{length}
use borrow.Author.Tests.{lt-ltb, le-ltb, eq-eqb, ne_eqb}
use Rattle.luck_text.specs.Bytes.{when◌then◌else◌}
use Rattle.luck_text.proofs.Cases.{if_true, if_false}
use Rattle.luck_pattern.specs.Items.{Set, Single, Repeat, once, optional, star, plus, minus, repeat_width, Item, start_capture, position_capture, end_capture, end_anchor, balance, frontier, back_reference, single, raises, items}
use Rattle.lstr_item.specs.Match.{Capture, opened, position, capture_to_close, Outcome, matched, failed, stopped, raised, Rest, due, new_level, do_start_capture, do_end_capture, do_back_reference, goes_on_at, is_frontier, passed_over, fits_at, expand, do_item, match}
use Rattle.lstr_class.specs.Subject.{match_balance}
use Rattle.lstr_item.specs.Inner.{Then, is_once, has_to_fit}

-- ---- Levels

module _ (l u : ℕ) (k : ℕ → Outcome) where
  pub too_deep : 200 ≤ l → stopped 28 0 u ≡ new_level l u k
  unfolding new_level when◌then◌else◌
  too_deep h = rw (le-ltb l 200 h)

  pub level_opens : l < 200 → new_level l u k ≡ k (l + 1)
  unfolding new_level when◌then◌else◌
  level_opens h = rw (lt-ltb l 200 h)

-- ---- Repeats

pub false_true : ◌≡◌ {A = Bool} false true → ⊥
false_true e = let z : ◌≡◌ {A = ℕ} 0 1 = cc in absurd (omega arith)

once_width : (k : Repeat) → is_once k ≡ true → repeat_width k ≡ 0
unfolding repeat_width
once_width once e = refl
once_width optional e = absurd (false_true e)
once_width star e = absurd (false_true e)
once_width plus e = absurd (false_true e)
once_width minus e = absurd (false_true e)

repeat_width_lem : (k : Repeat) → is_once k ≡ false → repeat_width k ≡ 1
unfolding repeat_width
repeat_width_lem once e = absurd (false_true (sym e))
repeat_width_lem optional e = refl
repeat_width_lem star e = refl
repeat_width_lem plus e = refl
repeat_width_lem minus e = refl

after_once : (e : ℕ) (k : Repeat) → is_once k ≡ true → e + repeat_width k ≡ e
after_once e k h = let w = once_width k h in omega arith

after_repeat : (e : ℕ) (k : Repeat) → is_once k ≡ false → e + repeat_width k ≡ e + 1
after_repeat e k h = ap (λ (n : ℕ). e + n) (repeat_width_lem k h)

pub passed_repeats : (k : Repeat) → has_to_fit k ≡ false → is_once k ≡ false
passed_repeats once e = absurd (false_true (sym e))
passed_repeats optional e = refl
passed_repeats star e = refl
passed_repeats plus e = refl
passed_repeats minus e = refl

module _ (rest : Rest) (s l : ℕ) (cs : List Capture) (u : ℕ) where
  pub not_passed : (k : Repeat) → has_to_fit k ≡ true → failed u ≡ passed_over k rest s l cs u
  unfolding passed_over
  not_passed once e = refl
  not_passed optional e = absurd (false_true e)
  not_passed star e = absurd (false_true e)
  not_passed plus e = refl
  not_passed minus e = absurd (false_true e)

  passed : (k : Repeat) → has_to_fit k ≡ false → rest s l cs u ≡ passed_over k rest s l cs u
  unfolding passed_over
  passed once e = absurd (false_true (sym e))
  passed optional e = refl
  passed star e = refl
  passed plus e = absurd (false_true (sym e))
  passed minus e = refl

-- a single that ends before place e, where its repeat stands: the place behind both
module _ (pat : List ℕ) (p e : ℕ) (x : Single) (k : Repeat) (t : Then pat p (single x k) (e + repeat_width k)) where
  pub behind_once : is_once k ≡ true → (p < e) × (e ≤ length pat)
  behind_once h = let w = once_width k h in (omega (arith, t.further), omega (arith, t.inside))

  pub behind_repeat : is_once k ≡ false → (p < e + 1) × (e + 1 ≤ length pat)
  behind_repeat h = let w = repeat_width_lem k h in (omega (arith, t.further), omega (arith, t.inside))

-- ---- A turn

module _ (in_class : ℕ → ℕ → Bool) (sub pat : List ℕ) (budget : ℕ) where
  abbrev pub on : ℕ → Rest
  on p = match in_class sub budget (items pat p)

  pub steps_spent : (is : List Item) (s l : ℕ) (cs : List Capture) (u : ℕ) → budget ≤ u → stopped 27 0 u ≡ match in_class sub budget is s l cs u
  unfolding match due when◌then◌else◌
  steps_spent [] s l cs u h = rw (le-ltb u budget h)
  steps_spent (i ∷ is) s l cs u h = rw (le-ltb u budget h)

  module _ (p s l : ℕ) (cs : List Capture) (u : ℕ) (h : u < budget) where
    pub at_end : items pat p ≡ [] → matched s cs (u + 1) ≡ on p s l cs u
    unfolding match due when◌then◌else◌
    at_end e = rw (e, lt-ltb u budget h)

    last_item : (i : Item) → items pat p ≡ i ∷ [] → do_item in_class sub budget i (match in_class sub budget []) s l cs (u + 1) ≡ on p s l cs u
    unfolding match due when◌then◌else◌
    last_item i e = rw (e, lt-ltb u budget h)

    pub item : (i : Item) (q : ℕ) → Then pat p i q → do_item in_class sub budget i (on q) s l cs (u + 1) ≡ on p s l cs u
    unfolding match due when◌then◌else◌
    item i q t = rw (t.is, lt-ltb u budget h)

    pub at_anchor : items pat p ≡ end_anchor ∷ [] → s ≡ length sub → matched s cs (u + 1) ≡ on p s l cs u
    unfolding do_item
    at_anchor e f = sym (if_true _ _ _ (eq-eqb s (length sub) f)) ∙ last_item end_anchor e

    pub not_at_anchor : items pat p ≡ end_anchor ∷ [] → (s ≡ length sub → ⊥) → failed (u + 1) ≡ on p s l cs u
    unfolding do_item
    not_at_anchor e f = sym (if_false _ _ _ (ne_eqb s (length sub) f)) ∙ last_item end_anchor e

    pub at_raises : (kind : ℕ) → items pat p ≡ raises kind ∷ [] → raised kind (u + 1) ≡ on p s l cs u
    unfolding do_item
    at_raises kind e = last_item (raises kind) e

    module _ (q : ℕ) where
      pub at_start : (x : Capture) → x ≡ opened s → Then pat p start_capture q → do_start_capture x (on q) s l cs (u + 1) ≡ on p s l cs u
      unfolding do_item
      at_start x e t = ap (λ c. do_start_capture c (on q) s l cs (u + 1)) e ∙ item start_capture q t

      pub at_position : (x : Capture) → x ≡ position s → Then pat p position_capture q → do_start_capture x (on q) s l cs (u + 1) ≡ on p s l cs u
      unfolding do_item
      at_position x e t = ap (λ c. do_start_capture c (on q) s l cs (u + 1)) e ∙ item position_capture q t

      pub at_close : Then pat p end_capture q → do_end_capture (capture_to_close cs) (on q) s l cs (u + 1) ≡ on p s l cs u
      unfolding do_item
      at_close t = item end_capture q t

      pub at_reference : (d : ℕ) → Then pat p (back_reference d) q → do_back_reference sub d (on q) s l cs (u + 1) ≡ on p s l cs u
      unfolding do_item
      at_reference d t = item (back_reference d) q t

      pub at_balance : (x y : ℕ) → Then pat p (balance x y) q → goes_on_at (match_balance sub x y s) (on q) l cs (u + 1) ≡ on p s l cs u
      unfolding do_item
      at_balance x y t = item (balance x y) q t

      pub balanced : (x y e : ℕ) → Then pat p (balance x y) q → Some e ≡ match_balance sub x y s → on q e l cs (u + 1) ≡ on p s l cs u
      unfolding goes_on_at
      balanced x y e t f = ap (λ o. goes_on_at o (on q) l cs (u + 1)) f ∙ at_balance x y t

      pub unbalanced : (x y : ℕ) → Then pat p (balance x y) q → None ≡ match_balance sub x y s → failed (u + 1) ≡ on p s l cs u
      unfolding goes_on_at
      unbalanced x y t f = ap (λ o. goes_on_at o (on q) l cs (u + 1)) f ∙ at_balance x y t

      pub at_frontier : (x : Set) → Then pat p (frontier x) q → is_frontier in_class sub x s ≡ true → on q s l cs (u + 1) ≡ on p s l cs u
      unfolding do_item
      at_frontier x t f = sym (if_true _ _ _ f) ∙ item (frontier x) q t

      pub no_frontier : (x : Set) → Then pat p (frontier x) q → is_frontier in_class sub x s ≡ false → failed (u + 1) ≡ on p s l cs u
      unfolding do_item
      no_frontier x t f = sym (if_false _ _ _ f) ∙ item (frontier x) q t

      module _ (x : Single) (r : Repeat) (t : Then pat p (single x r) q) where
        pub fitting : fits_at in_class sub x s ≡ true → expand in_class sub budget x r (on q) s l cs (u + 1) ≡ on p s l cs u
        unfolding do_item
        fitting f = sym (if_true _ _ _ f) ∙ item (single x r) q t

        unfitting : fits_at in_class sub x s ≡ false → passed_over r (on q) s l cs (u + 1) ≡ on p s l cs u
        unfolding do_item
        unfitting f = sym (if_false _ _ _ f) ∙ item (single x r) q t

    -- a single that ends before place e, where its repeat stands
    module _ (e : ℕ) (x : Single) (k : Repeat) (t : Then pat p (single x k) (e + repeat_width k)) where
      pub unfit_fails : has_to_fit k ≡ true → fits_at in_class sub x s ≡ false → failed (u + 1) ≡ on p s l cs u
      unfit_fails h f = not_passed _ s l cs (u + 1) k h ∙ unfitting (e + repeat_width k) x k t f

      pub unfit_passed : has_to_fit k ≡ false → fits_at in_class sub x s ≡ false → on (e + 1) s l cs (u + 1) ≡ on p s l cs u
      unfit_passed h f =
          ap (λ (q : ℕ). on q s l cs (u + 1)) (sym (after_repeat e k (passed_repeats k h)))
          ∙ passed _ s l cs (u + 1) k h ∙ unfitting (e + repeat_width k) x k t f

      once_expands : (r : Repeat) → is_once r ≡ true → (rest : Rest) → rest (s + 1) l cs (u + 1) ≡ expand in_class sub budget x r rest s l cs (u + 1)
      unfolding expand
      once_expands once h rest = refl
      once_expands optional h rest = absurd (false_true h)
      once_expands star h rest = absurd (false_true h)
      once_expands plus h rest = absurd (false_true h)
      once_expands minus h rest = absurd (false_true h)

      pub fit_once : is_once k ≡ true → fits_at in_class sub x s ≡ true → on e (s + 1) l cs (u + 1) ≡ on p s l cs u
      fit_once h f =
          ap (λ (q : ℕ). on q (s + 1) l cs (u + 1)) (sym (after_once e k h)) ∙ once_expands k h _ ∙ fitting (e + repeat_width k) x k t f

      pub fit_more : is_once k ≡ false → fits_at in_class sub x s ≡ true → expand in_class sub budget x k (on (e + 1)) s l cs (u + 1) ≡ on p s l cs u
      fit_more h f =
          ap (λ (q : ℕ). expand in_class sub budget x k (on q) s l cs (u + 1)) (sym (after_repeat e k h)) ∙ fitting (e + repeat_width k) x k t f
