-- What the functions that look ahead promise each other, the matching and the attempts. This crate is for the trial
-- only, and no contract of `gsub` rests on these.
-- Assumes nothing.
use Rattle.std.specs.Prelude.{ℕ, ◌+◌, ◌<◌, ◌≤◌, ◌≡◌, Bool, true, false, List, length, None}
use Rattle.luck_pattern.specs.Items.{items}
use Rattle.lstr_item.specs.Match.{Capture, failed, new_level, capture_to_close, fits_at, match}
use Rattle.lstr_item.specs.declared.ahead.Ahead.{Ahead}
use Rattle.lstr_item.specs.Inner.{single_of, SingleIn}

-- the items from place p on fail where the single from p up to e does not fit
pub record MustFit (pat : List ℕ) (p e : ℕ) : Type 0 where
  pub single : SingleIn pat p e
  pub fails : (in_class : ℕ → ℕ → Bool) (sub : List ℕ) (budget s l : ℕ) (cs : List Capture) (u : ℕ) → u < budget
      → fits_at in_class sub (single_of pat p e) s ≡ false
      → failed (u + 1) ≡ match in_class sub budget (items pat p) s l cs u

-- such a single stands at place p, and its failure is the last of n steps
pub record SingleAhead (pat : List ℕ) (p n : ℕ) (a : Ahead) : Type 0 where
  pub at : a.at ≡ p
  pub steps : a.steps ≡ n
  pub must : MustFit pat p a.suffix

-- the items from place `next` on, at a new level above l, behind at most `count` captures, one of them open where
-- `is_open`, fail with these steps where the single ahead does not fit
pub record Sure (pat : List ℕ) (next l count : ℕ) (is_open : Bool) (a : Ahead) : Type 0 where
  pub single : SingleIn pat a.at a.suffix
  pub fails : (in_class : ℕ → ℕ → Bool) (sub : List ℕ) (budget s : ℕ) (cs : List Capture) (u : ℕ)
      → length cs ≤ count → (is_open ≡ true → capture_to_close cs ≡ None → ⊥) → u + a.steps ≤ budget
      → fits_at in_class sub (single_of pat a.at a.suffix) s ≡ false
      → failed (u + a.steps) ≡ new_level l u (λ m. match in_class sub budget (items pat next) s m cs u)

-- the single ahead does not fit at place s, and its steps are left
pub record FailsHere (in_class : ℕ → ℕ → Bool) (sub pat : List ℕ) (a : Ahead) (s budget u : ℕ) : Type 0 where
  pub left : u + a.steps ≤ budget
  pub unfit : fits_at in_class sub (single_of pat a.at a.suffix) s ≡ false

-- the same of a single ahead of which something is known: with no steps nothing is
pub record KnownFailsHere (in_class : ℕ → ℕ → Bool) (sub pat : List ℕ) (a : Ahead) (s budget u : ℕ) : Type 0 where
  pub known : 0 < a.steps
  pub here : FailsHere in_class sub pat a s budget u
