-- What the functions of `outcome` say of the whole.
-- Assumes nothing.
use Prim.Native.Nat.{ℕ, ◌≤◌}
use mathlib.Core.Path.{◌≡◌, sym, ap, subst, ◌∙◌}
use mathlib.Core.List.{List}
use Rattle.lstr_item.specs.Match.{Capture, Outcome, matched}
use Rattle.lstr_item.specs.Inner.{pairs_of, KeptIn}
use Rattle.lstr_item.specs.declared.capture.Pair.{Pair}
use Rattle.lstr_match.specs.Inner.{outcome_of, AttemptIn, EndsAs, MatchesAs}
use Rattle.lstr_match.specs.declared.outcome.Attempt.{Attempt}

module _ (r : Attempt) (kept : List Pair) (len : ℕ) (o whole : Outcome) where
  pub ended : EndsAs r o → o ≡ whole → (outcome_of r kept ≡ whole) × AttemptIn r kept len
  ended w e = ((w kept len).0 ∙ e, (w kept len).1)

  pub answered : (a : Attempt) → a ≡ r → (outcome_of r kept ≡ o) × AttemptIn r kept len → o ≡ whole → (outcome_of a kept ≡ whole) × AttemptIn a kept len
  answered a f w e = subst (λ (x : Attempt). (outcome_of x kept ≡ whole) × AttemptIn x kept len) (sym f) (w.0 ∙ e, w.1)

pub kept_matched : (r : Attempt) (e n u : ℕ) (kept : List Pair) (len : ℕ) (cs : List Capture) (whole : Outcome)
    → MatchesAs r e n u → e ≤ len → KeptIn len n kept → pairs_of n kept ≡ cs → matched e cs u ≡ whole
    → (outcome_of r kept ≡ whole) × AttemptIn r kept len
kept_matched r e n u kept len cs whole w h i f g =
    ((w kept len h i).0 ∙ ap (λ (x : List Capture). matched e x u) f ∙ g, (w kept len h i).1)
