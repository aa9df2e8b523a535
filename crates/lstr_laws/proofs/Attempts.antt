-- What the repeats, levels and steps of an attempt keep: a statement P of outcomes that holds of the rest, wherever it is tried with these captures,
-- holds of what an item makes of the rest. What is promised of attempts are instances: P and U, of the steps, are chosen, and the items that change
-- or read captures are dealt with one by one.
-- Assumes nothing.
use Rattle.std.specs.Prelude.{Option, None, Some}
use Prim.Native.Nat.{ℕ, zero, suc, ◌+◌, ◌-◌, ◌≤◌, ◌<◌}
use mathlib.Core.Bool.{Bool}
use mathlib.Core.List.{List}
use lib.ListN.{length}
use borrow.Author.Tests.{ltb-true, ltb-false}
use Rattle.luck_text.proofs.Cases.{by_test}
use Rattle.luck_pattern.specs.Items.{Set, Single, Repeat, once, optional, star, plus, minus, balance, frontier, single}
use Rattle.lstr_item.specs.Match.{Capture, closed, Outcome, matched, failed, stopped, Rest, due, new_level, or_else, match_capture, goes_on_at, passed_over, Reach, reached, spent, longest_first, max_expand, reach, min_expand, expand, do_item}

-- of an attempt: U of the steps, E of the number, the kind and the steps that it stops with, C of a match's captures
abbrev pub AttemptFine : (ℕ → Type 0) → (ℕ → ℕ → ℕ → Type 0) → (List Capture → Type 0) → Outcome → Type 0
AttemptFine U E C (matched e cs u) = U u × C cs
AttemptFine U E C (failed u) = U u
AttemptFine U E C (stopped number kind u) = U u × E number kind u

pub record Kept (budget : ℕ) (P : Outcome → Type 0) (U : ℕ → Type 0) : Type 0 where
  pub more : (u : ℕ) → U u → u < budget → U (u + 1)
  pub steps_spent : (u : ℕ) → U u → budget ≤ u → P (stopped 27 0 u)
  pub too_deep : (u : ℕ) → U u → P (stopped 28 0 u)
  pub fails : (u : ℕ) → U u → P (failed u)
  pub after_failure : (u : ℕ) → P (failed u) → U u

-- of a repeat's tests
abbrev ReachKept : ℕ → (ℕ → Type 0) → Reach → Type 0
ReachKept budget U (reached e u) = U u
ReachKept budget U (spent u) = U u × (budget ≤ u)

module _ (in_class : ℕ → ℕ → Bool) (sub : List ℕ) (budget : ℕ) (P : Outcome → Type 0) (U : ℕ → Type 0) (kept : Kept budget P U) where
  pub due_kept : (u : ℕ) (k : ℕ → Outcome) → U u → ((v : ℕ) → U v → P (k v)) → P (due budget u k)
  unfolding due
  due_kept u k h f = by_test P _ _ _ (λ e. f (u + 1) (kept.more u h (ltb-true u budget e))) (λ e. kept.steps_spent u h (ltb-false u budget e))

  pub level_kept : (l u : ℕ) (k : ℕ → Outcome) → U u → ((m : ℕ) → P (k m)) → P (new_level l u k)
  unfolding new_level
  level_kept l u k h f = by_test P _ _ _ (λ e. f (l + 1)) (λ e. kept.too_deep u h)

  else_kept : (o : Outcome) (k : ℕ → Outcome) → P o → ((v : ℕ) → U v → P (k v)) → P (or_else o k)
  unfolding or_else
  else_kept (matched e cs u) k h f = h
  else_kept (failed u) k h f = f u (kept.after_failure u h)
  else_kept (stopped number kind u) k h f = h

  reach_kept : (x : Single) (n s u : ℕ) → U u → ReachKept budget U (reach in_class sub budget x n s u)
  unfolding reach
  reach_kept x zero s u h = by_test (ReachKept budget U) _ _ _ (λ e. kept.more u h (ltb-true u budget e)) (λ e. (h, ltb-false u budget e))
  reach_kept x (suc n) s u h =
      by_test (ReachKept budget U) _ _ _
      (λ e.
      let g : U (u + 1) = kept.more u h (ltb-true u budget e) in
      by_test (ReachKept budget U) _ _ _ (λ t. reach_kept x n (s + 1) (u + 1) g) (λ t. g))
      (λ e. (h, ltb-false u budget e))

  module _ (rest : Rest) (cs : List Capture) (on : (s l u : ℕ) → U u → P (rest s l cs u)) where
    longest_kept : (i s l u : ℕ) → U u → P (longest_first rest i s l cs u)
    unfolding longest_first
    longest_kept zero s l u h = level_kept l u _ h (λ m. on s m u h)
    longest_kept (suc i) s l u h = else_kept _ _ (level_kept l u _ h (λ m. on (s + suc i) m u h)) (λ v g. longest_kept i s l v g)

    max_kept : (r : Reach) (s l : ℕ) → ReachKept budget U r → P (max_expand r rest s l cs)
    unfolding max_expand
    max_kept (reached e u) s l h = longest_kept (e - s) s l u h
    max_kept (spent u) s l h = kept.steps_spent u h.0 h.1

    min_kept : (x : Single) (n s l u : ℕ) → U u → P (min_expand in_class sub budget x rest n s l cs u)
    unfolding min_expand
    min_kept x zero s l u h = due_kept u _ h (λ v g. kept.fails v g)
    min_kept x (suc n) s l u h =
        due_kept u _ h
        (λ v g.
        by_test P _ _ _
        (λ t. else_kept _ _ (level_kept l v _ g (λ m. on (s + 1) m v g)) (λ w k. min_kept x n (s + 1) l w k))
        (λ t. kept.fails v g))

    expand_kept : (x : Single) (r : Repeat) (s l u : ℕ) → U u → P (expand in_class sub budget x r rest s l cs u)
    unfolding expand
    expand_kept x once s l u h = on (s + 1) l u h
    expand_kept x optional s l u h = else_kept _ _ (level_kept l u _ h (λ m. on (s + 1) m u h)) (λ v g. on s l v g)
    expand_kept x star s l u h = max_kept _ s l (reach_kept x (length sub - (s + 1)) (s + 1) u h)
    expand_kept x plus s l u h = max_kept _ (s + 1) l (reach_kept x (length sub - (s + 1)) (s + 1) u h)
    expand_kept x minus s l u h =
        else_kept _ _ (level_kept l u _ h (λ m. on s m u h))
        (λ v g.
        else_kept _ _ (level_kept l v _ g (λ m. on (s + 1) m v g))
        (λ w k. min_kept x (length sub - (s + 1)) (s + 1) l w k))

    passed_kept : (r : Repeat) (s l u : ℕ) → U u → P (passed_over r rest s l cs u)
    unfolding passed_over
    passed_kept once s l u h = kept.fails u h
    passed_kept optional s l u h = on s l u h
    passed_kept star s l u h = on s l u h
    passed_kept plus s l u h = kept.fails u h
    passed_kept minus s l u h = on s l u h

    goes_kept : (e : Option ℕ) (l u : ℕ) → U u → P (goes_on_at e rest l cs u)
    unfolding goes_on_at
    goes_kept None l u h = kept.fails u h
    goes_kept (Some e) l u h = on e l u h

    -- the items that leave the captures alone and raise nothing
    pub single_kept : (x : Single) (r : Repeat) (s l u : ℕ) → U u → P (do_item in_class sub budget (single x r) rest s l cs u)
    unfolding do_item
    single_kept x r s l u h = by_test P _ _ _ (λ t. expand_kept x r s l u h) (λ t. passed_kept r s l u h)

    pub balance_kept : (x y s l u : ℕ) → U u → P (do_item in_class sub budget (balance x y) rest s l cs u)
    unfolding do_item
    balance_kept x y s l u h = goes_kept _ l u h

    pub frontier_kept : (x : Set) (s l u : ℕ) → U u → P (do_item in_class sub budget (frontier x) rest s l cs u)
    unfolding do_item
    frontier_kept x s l u h = by_test P _ _ _ (λ t. on s l u h) (λ t. kept.fails u h)

    pub closed_kept : (start n s l u : ℕ) → U u → P (match_capture sub (closed start n) rest s l cs u)
    unfolding match_capture
    closed_kept start n s l u h = by_test P _ _ _ (λ t. on (s + n) l u h) (λ t. kept.fails u h)
