-- Laws of attempts that need no captures: a repeat that ends the pattern, and an attempt that fails by its first test.
-- Assumes nothing.
use Rattle.std.specs.Prelude.{Option, None, Some, IfSome}
use Prim.Native.Nat.{ℕ, ◌+◌, ◌-◌, ◌≤◌, ◌<◌}
use native.Mathlib.Omega.{arith}
use mathlib.Core.Path.{◌≡◌, refl, sym, ap, ◌∙◌}
use mathlib.Core.Bool.{Bool, true, false}
use mathlib.Core.List.{List, [], ◌∷◌}
use lib.ListN.{length}
use lib.Dec.{ltb}
use borrow.Author.Tests.{lt-ltb, le-ltb}
use Rattle.luck_text.specs.Bytes.{when◌then◌else◌}
use Rattle.luck_text.proofs.Cases.{if_true, if_false}
use Rattle.luck_pattern.specs.Items.{Single, Repeat, once, optional, star, plus, minus, repeat_width, Item, single, items}
use Rattle.lstr_item.specs.Match.{Capture, Outcome, matched, failed, stopped, Rest, due, new_level, or_else, do_start_capture, Reach, reach, reached, max_expand, fits_at, expand, match}
use Rattle.lstr_item.specs.Inner.{single_of, Then, is_once, has_to_fit, is_greedy, KeptIn, pairs_of}
use Rattle.lstr_match.specs.Inner.{outcome_of, AttemptIn, MatchesAs}
use Rattle.lstr_item.specs.Ahead.{SingleAhead, Sure}
use Rattle.lstr_attempt.specs.Inner.{GoesOn, LastIn, FittedIn, LeadIn}
use Rattle.lstr_item.specs.declared.ahead.Ahead.{Ahead}
use Rattle.lstr_item.specs.declared.capture.Pair.{Pair}
use Rattle.lstr_match.specs.declared.outcome.Attempt.{Attempt}
use Rattle.lstr_attempt.specs.declared.lead.Lead.{Lead}
use Rattle.lstr_attempt.specs.declared.lead.Fitted.{Fitted}
use Rattle.lstr_attempt.specs.declared.lead.Unfit.TheVariants as unfit
use Rattle.lstr_item.proofs.Items.{items_end}
use Rattle.lstr_item.proofs.Turns as turns
use Rattle.lstr_match.proofs.Attempts as attempts
use Rattle.lstr_match.proofs.Repeats as repeats

-- ---- A match without captures

none_kept : (kept : List Pair) (len : ℕ) → KeptIn len 0 kept
none_kept kept len = record { few = omega arith; room = omega arith; each = λ i h. absurd (omega arith) }

pub bare_match : (r : Attempt) (e u : ℕ) (kept : List Pair) (len : ℕ) (whole : Outcome) → MatchesAs r e 0 u → e ≤ len → matched e [] u ≡ whole
    → (outcome_of r kept ≡ whole) × AttemptIn r kept len
unfolding pairs_of
bare_match r e u kept len whole w h g = attempts.kept_matched r e 0 u kept len [] whole w h (none_kept kept len) refl g

-- ---- The first capture

-- nothing stands in its way
pub first_starts : (c : Capture) (cs : List Capture) → cs ≡ c ∷ [] → (rest : Rest) (s u : ℕ)
    → new_level 1 u (λ m. rest s m cs u) ≡ do_start_capture c rest s 1 [] u
unfolding do_start_capture when◌then◌else◌
first_starts c cs e rest s u = ap (λ (x : List Capture). new_level 1 u (λ m. rest s m x u)) e

-- ---- A repeat that ends the pattern

end_or_spent : (b : Bool) (e : ℕ) (cs : List Capture) (u v : ℕ) (k : ℕ → Outcome)
    → or_else (when b then matched e cs v else stopped 27 0 u) k ≡ (when b then matched e cs v else stopped 27 0 u)
unfolding when◌then◌else◌ or_else
end_or_spent true e cs u v k = refl
end_or_spent false e cs u v k = refl

module _ (in_class : ℕ → ℕ → Bool) (sub : List ℕ) (budget : ℕ) where
  -- the pattern's end
  abbrev ending : Rest
  ending = match in_class sub budget []

  end_spent : (e l : ℕ) (cs : List Capture) (u : ℕ) → budget ≤ u → stopped 27 0 u ≡ ending e l cs u
  unfolding match due
  end_spent e l cs u h = sym (if_false _ _ _ (le-ltb u budget h))

  end_matches : (e l : ℕ) (cs : List Capture) (u : ℕ) → u < budget → matched e cs (u + 1) ≡ ending e l cs u
  unfolding match due
  end_matches e l cs u h = sym (if_true _ _ _ (lt-ltb u budget h))

  end_not_failed : (e l : ℕ) (cs : List Capture) (u : ℕ) (k : ℕ → Outcome) → or_else (ending e l cs u) k ≡ ending e l cs u
  unfolding match due
  end_not_failed e l cs u k = end_or_spent (ltb u budget) e cs u (u + 1) k

  -- the longest repeat is taken
  longest_taken : (e s : ℕ) (cs : List Capture) (u : ℕ) (t : Reach) → s ≤ e → reached e u ≡ t → ending e 2 cs u ≡ max_expand t ending s 1 cs
  unfolding new_level when◌then◌else◌
  longest_taken e s cs u t h w =
      sym (end_not_failed e 2 cs u (λ v. repeats.downwards ending s 1 cs (e - s) v))
      ∙ repeats.down ending s 1 cs (e + 1) e u refl h ∙ repeats.all_down ending s 1 cs e u t h w

  -- what the code's reach makes of it
  module _ (e u : ℕ) (t : Reach) (w : reached e u ≡ t) (shortest : ℕ) (h : shortest ≤ e) (cs : List Capture) where
    pub end_unpaid : budget ≤ u → stopped 27 0 u ≡ max_expand t ending shortest 1 cs
    end_unpaid l = end_spent e 2 cs u l ∙ longest_taken e shortest cs u t h w

    pub end_paid : u < budget → matched e cs (u + 1) ≡ max_expand t ending shortest 1 cs
    end_paid l = end_matches e 2 cs u l ∙ longest_taken e shortest cs u t h w

  module _ (pat : List ℕ) (p s : ℕ) (cs : List Capture) (u : ℕ) (h : u < budget) (e : ℕ) (x : Single) (f : fits_at in_class sub x s ≡ true) where
    rest_ends : (r : Repeat) (q : ℕ) → length pat ≤ q → Then pat p (single x r) q
        → expand in_class sub budget x r ending s 1 cs (u + 1) ≡ match in_class sub budget (items pat p) s 1 cs u
    rest_ends r q last t =
        ap (λ (is : List Item). expand in_class sub budget x r (match in_class sub budget is) s 1 cs (u + 1)) (sym (items_end pat q last))
        ∙ turns.fitting in_class sub pat budget p s 1 cs u h q x r t f

    -- with the least bytes that its repeat takes
    pub last_greedy : (k : Repeat) → is_greedy k ≡ true → length pat ≤ e + 1 → Then pat p (single x k) (e + repeat_width k)
        → (shortest : ℕ)
        × (shortest ≤ s + 1)
        × (max_expand (reach in_class sub budget x (length sub - (s + 1)) (s + 1) (u + 1)) ending shortest 1 cs
        ≡ match in_class sub budget (items pat p) s 1 cs u)
    unfolding repeat_width
    last_greedy once g l t = absurd (turns.false_true g)
    last_greedy optional g l t = absurd (turns.false_true g)
    last_greedy star g l t = (s, omega arith, repeats.star_on in_class sub budget x ending s 1 cs (u + 1) ∙ rest_ends star (e + 1) l t)
    last_greedy plus g l t = (s + 1, omega arith, repeats.plus_on in_class sub budget x ending s 1 cs (u + 1) ∙ rest_ends plus (e + 1) l t)
    last_greedy minus g l t = absurd (turns.false_true g)

-- ---- The first test

module _ (pat : List ℕ) where
  -- a capture's start or a position stands before the single
  pub opened_leads : (q : ℕ) (f : Fitted) → ((a : Ahead) → SingleAhead pat q 2 a → Sure pat 0 0 0 false a) → ((a : Ahead) → a.at ≡ q → FittedIn pat a f)
      → (r : Option Lead) → IfSome r (λ lead. SingleAhead pat q 2 lead.first × (lead.fitted ≡ f) × (lead.unfit ≡ unfit.Fails)) → IfSome r (LeadIn pat)
  opened_leads q f sure fits None h = h
  opened_leads q f sure fits (Some lead) h =
      let s = sure lead.first h.0 in
      record { single = s.single; steps = omega (arith, h.0.steps); fitted = rw h.1 (fits lead.first h.0.at); unfit = rw h.2 s }

  -- the single stands first
  module _ (x : Single) (e : ℕ) (k : Repeat) (at : Then pat 0 (single x k) (e + repeat_width k)) where
    pub first_passed : is_once k ≡ true → GoesOn pat x true e 1
    first_passed o =
        record {
          inside = (turns.behind_once pat 0 e x k at o).1;
          on = λ in_class sub budget s t u z h f.
              ap (λ (y : ℕ). match in_class sub budget (items pat e) y 1 [] (u + 1)) z ∙ turns.fit_once in_class sub pat budget 0 s 1 [] u h e x k at o f;
        }

    pub first_skipped : has_to_fit k ≡ false → GoesOn pat x false (e + 1) 0
    first_skipped r =
        record {
          inside = (turns.behind_repeat pat 0 e x k at (turns.passed_repeats k r)).1;
          on = λ in_class sub budget s t u z h f.
              let y : t ≡ s = omega arith in
              ap (λ (n : ℕ). match in_class sub budget (items pat (e + 1)) n 1 [] (u + 1)) y ∙ turns.unfit_passed in_class sub pat budget 0 s 1 [] u h e x k at r f;
        }

    pub only_greedy : is_greedy k ≡ true → length pat ≤ e + 1 → LastIn pat x
    only_greedy g l in_class sub budget s u h f = last_greedy in_class sub budget pat 0 s [] u h e x f k g l at

-- ---- do_match at the first level

-- a new level below none is the first
pub first_level : (in_class : ℕ → ℕ → Bool) (sub : List ℕ) (budget : ℕ) (is : List Item) (s u : ℕ) (cs : List Capture) → cs ≡ []
    → new_level 0 u (λ m. match in_class sub budget is s m cs u) ≡ match in_class sub budget is s 1 [] u
unfolding new_level when◌then◌else◌
first_level in_class sub budget is s u cs e = ap (λ (x : List Capture). match in_class sub budget is s 1 x u) e

-- an attempt that fails by its first test
pub fails_first : (in_class : ℕ → ℕ → Bool) (sub pat : List ℕ) (budget s u : ℕ) (a : Ahead) → Sure pat 0 0 0 false a → u + a.steps ≤ budget
    → fits_at in_class sub (single_of pat a.at a.suffix) s ≡ false → failed (u + a.steps) ≡ match in_class sub budget (items pat 0) s 1 [] u
fails_first in_class sub pat budget s u a sure h f =
    sure.fails in_class sub budget s [] u (omega arith) (λ e. absurd (turns.false_true e)) h f ∙ turns.level_opens 0 u _ (omega arith)
