-- What the functions of the matching promise each other and the trial. This crate is for the trial only, and no
-- contract of `gsub` rests on these.
-- Assumes nothing.
use Rattle.std.specs.Prelude.{ℕ, ◌≤◌, ◌≡◌, List}
use Rattle.lstr_item.specs.Match.{Outcome, matched, failed, stopped}
use Rattle.lstr_item.specs.Errors.{kind_of}
use Rattle.lstr_item.specs.Inner.{pairs_of, KeptIn}
use Rattle.lstr_item.specs.declared.capture.Pair.{Pair}
use Rattle.lstr_match.specs.declared.outcome.Attempt.{Attempt}
use Rattle.lstr_match.specs.declared.outcome.Ending.{Ending}
use Rattle.lstr_match.specs.declared.outcome.Ending.TheVariants as ending
use Rattle.lstr_match.specs.declared.outcome.Stop.{Stop}
use Rattle.lstr_match.specs.declared.outcome.Stop.TheVariants as stop

-- what stopped an attempt, by number and kind in include/luck.h
abbrev pub number_of : Stop → ℕ
number_of stop.Spent = 27
number_of stop.TooDeep = 28
number_of (stop.Raised error) = 29
number_of (stop.RaisedAs kind) = 29

abbrev pub kind_of_stop : Stop → ℕ
kind_of_stop stop.Spent = 0
kind_of_stop stop.TooDeep = 0
kind_of_stop (stop.Raised error) = kind_of error
kind_of_stop (stop.RaisedAs kind) = kind

abbrev pub ended_as : Ending → List Pair → ℕ → Outcome
ended_as (ending.Matched e n) kept u = matched e (pairs_of n kept) u
ended_as ending.Failed kept u = failed u
ended_as (ending.Stopped s) kept u = stopped (number_of s) (kind_of_stop s) u

abbrev pub outcome_of : Attempt → List Pair → Outcome
outcome_of r kept = ended_as r.ending kept r.steps

-- a match ends in the subject, and so do its captures
abbrev pub EndingIn : Ending → List Pair → ℕ → Type 0
EndingIn (ending.Matched e n) kept len = (e ≤ len) × KeptIn len n kept
EndingIn ending.Failed kept len = Unit {0}
EndingIn (ending.Stopped s) kept len = Unit {0}

abbrev pub AttemptIn : Attempt → List Pair → ℕ → Type 0
AttemptIn r kept len = EndingIn r.ending kept len

-- how an attempt ends, whatever was kept
abbrev pub EndsAs : Attempt → Outcome → Type 0
EndsAs r o = (kept : List Pair) (len : ℕ) → (outcome_of r kept ≡ o) × AttemptIn r kept len

-- a match with n captures, where these were kept
abbrev pub MatchesAs : Attempt → ℕ → ℕ → ℕ → Type 0
MatchesAs r e n u =
    (kept : List Pair) (len : ℕ) → e ≤ len → KeptIn len n kept
    → (outcome_of r kept ≡ matched e (pairs_of n kept) u) × AttemptIn r kept len
