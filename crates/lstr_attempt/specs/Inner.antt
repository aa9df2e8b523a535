-- What the functions of an attempt promise each other. This crate is for the trial only, and no contract of `gsub`
-- rests on these.
-- Assumes nothing.
use Rattle.std.specs.Prelude.{ℕ, ◌+◌, ◌-◌, ◌<◌, ◌≤◌, ◌≡◌, Bool, true, false, List, [], length}
use Rattle.luck_pattern.specs.Items.{Single, start_capture, items}
use Rattle.lstr_item.specs.Match.{fits_at, max_expand, reach, match}
use Rattle.lstr_item.specs.Inner.{single_of, SingleIn, Then}
use Rattle.lstr_item.specs.Ahead.{Sure}
use Rattle.lstr_item.specs.declared.ahead.Ahead.{Ahead}
use Rattle.lstr_attempt.specs.declared.lead.Lead.{Lead}
use Rattle.lstr_attempt.specs.declared.lead.Fitted.{Fitted}
use Rattle.lstr_attempt.specs.declared.lead.Fitted.TheVariants as fitted
use Rattle.lstr_attempt.specs.declared.lead.Unfit.{Unfit}
use Rattle.lstr_attempt.specs.declared.lead.Unfit.TheVariants as unfit

-- where the single fits or does not, an attempt goes on from place q of the pattern and n bytes further
pub record GoesOn (pat : List ℕ) (x : Single) (fit : Bool) (q n : ℕ) : Type 0 where
  pub inside : q ≤ length pat
  pub on : (in_class : ℕ → ℕ → Bool) (sub : List ℕ) (budget s t u : ℕ)
      → t ≡ s + n → u < budget → fits_at in_class sub x s ≡ fit
      → match in_class sub budget (items pat q) t 1 [] (u + 1) ≡ match in_class sub budget (items pat 0) s 1 [] u

-- where the single fits, its repeat and the pattern's end are all of an attempt
abbrev pub LastIn : List ℕ → Single → Type 0
LastIn pat x =
    (in_class : ℕ → ℕ → Bool) (sub : List ℕ) (budget s u : ℕ) → u < budget → fits_at in_class sub x s ≡ true
    → (shortest : ℕ)
    × (shortest ≤ s + 1)
    × (max_expand (reach in_class sub budget x (length sub - (s + 1)) (s + 1) (u + 1))
    (match in_class sub budget []) shortest 1 []
    ≡ match in_class sub budget (items pat 0) s 1 [] u)

-- the single that the code's lead has
abbrev pub first_of : List ℕ → Ahead → Single
first_of pat a = single_of pat a.at a.suffix

-- how an attempt goes on where that single fits
abbrev pub FittedIn : List ℕ → Ahead → Fitted → Type 0
FittedIn pat a fitted.GoesOn = GoesOn pat (first_of pat a) true a.suffix 1
FittedIn pat a fitted.IsLast = LastIn pat (first_of pat a)
FittedIn pat a fitted.IsCaptured = Then pat 0 start_capture a.at
FittedIn pat a fitted.StartsOver = Unit {0}

-- and where it does not; an attempt is a new level above level 0, behind no captures: hence `Sure pat 0 0 0 false`
abbrev pub UnfitIn : List ℕ → Ahead → Unfit → Type 0
UnfitIn pat a unfit.Fails = Sure pat 0 0 0 false a
UnfitIn pat a unfit.IsSkipped = GoesOn pat (first_of pat a) false (a.suffix + 1) 0

-- what the code's lead says of every attempt
pub record LeadIn (pat : List ℕ) (lead : Lead) : Type 0 where
  pub single : SingleIn pat lead.first.at lead.first.suffix
  pub steps : 0 < lead.first.steps
  pub fitted : FittedIn pat lead.first lead.fitted
  pub unfit : UnfitIn pat lead.first lead.unfit
