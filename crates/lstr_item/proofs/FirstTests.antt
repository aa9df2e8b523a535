-- What the rest of a pattern tests first: where this single does not fit, the rest fails with exactly these steps.
-- Assumes nothing.
use Rattle.std.specs.Prelude.{Option, None, Some, IfSome}
use Prim.Native.Nat.{ℕ, ◌+◌, ◌≤◌, ◌<◌}
use native.Mathlib.Omega.{arith}
use mathlib.Core.Path.{◌≡◌, refl, sym, ap, ◌∙◌}
use mathlib.Core.Bool.{Bool, true, false}
use mathlib.Core.List.{List}
use lib.ListN.{length}
use borrow.Author.Tests.{lt-ltb}
use Rattle.luck_text.specs.Bytes.{when◌then◌else◌}
use Rattle.luck_pattern.specs.Items.{Repeat, Item, start_capture, position_capture, end_capture}
use Rattle.lstr_item.specs.Match.{Capture, opened, position, capture_to_close, failed, Rest, new_level, do_start_capture, do_end_capture, do_item}
use Rattle.lstr_item.specs.Inner.{single_of, has_to_fit, Then, Single-then}
use Rattle.lstr_item.specs.Ahead.{MustFit, SingleAhead, Sure}
use Rattle.lstr_item.specs.declared.ahead.Ahead.{Ahead}
use Rattle.lstr_item.proofs.Turns.{on, item, level_opens, unfit_fails}

-- ---- A single that has to fit

module _ (pat : List ℕ) (p e : ℕ) where
  pub must_fit : (k : Repeat) → has_to_fit k ≡ true → Single-then pat p e k → MustFit pat p e
  must_fit k h i =
      record {
        single = i.single;
        fails = λ in_class sub budget s l cs u g f. unfit_fails in_class sub pat budget p s l cs u g e (single_of pat p e) k i.on h f;
      }

pub single_ahead : (pat : List ℕ) (p e : ℕ) (k : Repeat) (n : ℕ) → has_to_fit k ≡ true → Single-then pat p e k
    → SingleAhead pat p n (record { at = p; steps = n; suffix = e })
single_ahead pat p e k n h i = record { at = refl; steps = refl; must = must_fit pat p e k h i }

-- ---- At a new level

-- what stands before the single fails where what follows it fails, at a new level with whatever captures
abbrev Opens : ℕ → Bool → Item → Type 0
Opens count is_open i =
    (in_class : ℕ → ℕ → Bool) (sub : List ℕ) (budget : ℕ) (rest : Rest) (s l : ℕ) (cs : List Capture) (u v : ℕ)
    → length cs ≤ count → (is_open ≡ true → capture_to_close cs ≡ None → ⊥)
    → ((ds : List Capture) → failed v ≡ new_level l u (λ m. rest s m ds u)) → failed v ≡ do_item in_class sub budget i rest s l cs u

module _ (count : ℕ) (is_open : Bool) where
  starts : (c : Capture) (rest : Rest) (s l : ℕ) (cs : List Capture) (u v : ℕ) → count < 32 → length cs ≤ count
      → ((ds : List Capture) → failed v ≡ new_level l u (λ m. rest s m ds u)) → failed v ≡ do_start_capture c rest s l cs u
  unfolding do_start_capture when◌then◌else◌
  starts c rest s l cs u v h n f = rw (lt-ltb (length cs) 32 (omega arith)) (f _)

  pub opens_start : count < 32 → Opens count is_open start_capture
  unfolding do_item
  opens_start h in_class sub budget rest s l cs u v n o f = starts (opened s) rest s l cs u v h n f

  pub opens_position : count < 32 → Opens count is_open position_capture
  unfolding do_item
  opens_position h in_class sub budget rest s l cs u v n o f = starts (position s) rest s l cs u v h n f

  closes : (rest : Rest) (s l : ℕ) (cs : List Capture) (u v : ℕ) (o : Option ℕ) → (o ≡ None → ⊥)
      → ((ds : List Capture) → failed v ≡ new_level l u (λ m. rest s m ds u)) → failed v ≡ do_end_capture o rest s l cs u
  unfolding do_end_capture
  closes rest s l cs u v None n f = absurd (n refl)
  closes rest s l cs u v (Some i) n f = f _

  pub opens_end : is_open ≡ true → Opens count is_open end_capture
  unfolding do_item
  opens_end h in_class sub budget rest s l cs u v n o f = closes rest s l cs u v (capture_to_close cs) (o h) f

  -- the single stands first, or behind such an item
  module _ (pat : List ℕ) (next l : ℕ) (a : Ahead) where
    pub sure_one : l < 200 → SingleAhead pat next 1 a → Sure pat next l count is_open a
    sure_one h b =
        let p = b.at in
        let m = b.must in
        record {
          single = rw p m.single;
          fails = λ in_class sub budget s cs u n o g f.
              ap (λ (v : ℕ). failed (u + v)) b.steps
              ∙ m.fails in_class sub budget s (l + 1) cs u (omega arith) (rw p at f)
              ∙ sym (level_opens l u _ h);
        }

    pub sure_two : (i : Item) (after : ℕ) → Opens count is_open i → l + 1 < 200 → Then pat next i after → SingleAhead pat after 2 a
        → Sure pat next l count is_open a
    sure_two i after opens h t b =
        let p = b.at in
        let m = b.must in
        record {
          single = rw p m.single;
          fails = λ in_class sub budget s cs u n o g f.
              let k : u + a.steps ≡ u + 1 + 1 = omega (arith, b.steps) in
              ap failed k
              ∙ opens in_class sub budget (on in_class sub pat budget after) s (l + 1) cs (u + 1) (u + 1 + 1) n o
              (λ ds. m.fails in_class sub budget s (l + 1 + 1) ds (u + 1) (omega arith) (rw p at f) ∙ sym (level_opens (l + 1) (u + 1) _ h))
              ∙ item in_class sub pat budget next s (l + 1) cs u (omega arith) i after t
              ∙ sym (level_opens l u _ (omega arith));
        }

-- what is told of the rest from `next` on, where a single was found there or behind a `)`
module _ (pat : List ℕ) (next l : ℕ) (is_open : Bool) where
  abbrev SureOf : Option Ahead → Type 0
  SureOf o = IfSome o (λ first. (count : ℕ) → Sure pat next l count is_open first)

  pub first_one : l < 200 → (o : Option Ahead) → IfSome o (SingleAhead pat next 1) → SureOf o
  first_one h None b = b
  first_one h (Some a) b = λ count. sure_one count is_open pat next l a h b

  pub first_two : l + 1 < 200 → is_open ≡ true → Then pat next end_capture (next + 1) → (o : Option Ahead) → IfSome o (SingleAhead pat (next + 1) 2) → SureOf o
  first_two h c t None b = b
  first_two h c t (Some a) b = λ count. sure_two count is_open pat next l a end_capture (next + 1) (opens_end count is_open c) h t b

-- the single that a pattern begins with
pub sure_first : (pat : List ℕ) (e : ℕ) (k : Repeat) → has_to_fit k ≡ true → Single-then pat 0 e k → Sure pat 0 0 0 false (record { at = 0; steps = 1; suffix = e })
sure_first pat e k h i = sure_one 0 false pat 0 0 _ (omega arith) (single_ahead pat 0 e k 1 h i)
