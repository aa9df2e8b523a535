-- An attempt goes forward: a match ends no earlier than it starts, and a match or a failure takes a step at least, within the budget.
-- Assumes nothing.
use Rattle.std.specs.Prelude.{Option, None, Some}
use Prim.Native.Nat.{ℕ, zero, suc, ◌+◌, ◌-◌, ◌≤◌}
use native.Mathlib.Omega.{arith}
use mathlib.Core.Path.{◌≡◌, refl}
use mathlib.Core.Bool.{Bool}
use mathlib.Core.List.{List, [], ◌∷◌}
use lib.ListN.{length, get_or}
use lib.Dec.{eqb, ltb}
use borrow.Author.Tests.{ltb-true}
use Rattle.luck_text.specs.Bytes.{byte_at}
use Rattle.luck_text.proofs.Cases.{by_test}
use Rattle.luck_pattern.specs.Items.{Single, Repeat, once, optional, star, plus, minus, Item, start_capture, position_capture, end_capture, end_anchor, balance, frontier, back_reference, single, raises}
use Rattle.lstr_item.specs.Match.{Capture, opened, position, closed, capture_to_close, Outcome, matched, failed, stopped, Rest, due, new_level, or_else, do_start_capture, do_end_capture, match_capture, do_back_reference, goes_on_at, passed_over, Reach, reached, spent, longest_first, max_expand, reach, min_expand, expand, do_item, match}
use Rattle.lstr_class.specs.Subject.{balance_end, match_balance}
use Rattle.lstr_laws.proofs.Onward.{U as Within, Onward as OnwardOutcome}

module _ (in_class : ℕ → ℕ → Bool) (sub : List ℕ) (budget : ℕ) (b w : ℕ) where
  abbrev U : ℕ → Type 0
  U = Within in_class sub budget b w

  abbrev pub Onward : Outcome → Type 0
  Onward = OnwardOutcome in_class sub budget b w

  stops : (number kind u : ℕ) → Onward (stopped number kind u)
  stops number kind u = record { ends = tt }

  fails : (u : ℕ) → U u → Onward (failed u)
  fails u h = record { ends = h }

  due_on : (u : ℕ) (k : ℕ → Outcome) → U u → ((v : ℕ) → U v → Onward (k v)) → Onward (due budget u k)
  unfolding due
  due_on u k h f = by_test Onward (ltb u budget) _ _ (λ e. f (u + 1) (omega (arith, h.0), omega (arith, ltb-true u budget e))) (λ e. stops 27 0 u)

  level_on : (l u : ℕ) (k : ℕ → Outcome) → ((m : ℕ) → Onward (k m)) → Onward (new_level l u k)
  unfolding new_level
  level_on l u k f = by_test Onward (ltb l 200) _ _ (λ e. f (l + 1)) (λ e. stops 28 0 u)

  else_on : (o : Outcome) (k : ℕ → Outcome) → Onward o → ((v : ℕ) → U v → Onward (k v)) → Onward (or_else o k)
  unfolding or_else
  else_on (matched e cs u) k h f = h
  else_on (failed u) k h f = f u h.ends
  else_on (stopped number kind u) k h f = h

  abbrev ReachOn : Reach → Type 0
  ReachOn (reached e u) = U u
  ReachOn (spent u) = Unit {0}

  reach_on : (x : Single) (n s u : ℕ) → U u → ReachOn (reach in_class sub budget x n s u)
  unfolding reach
  reach_on x zero s u h = by_test ReachOn (ltb u budget) _ _ (λ e. (omega (arith, h.0), omega (arith, ltb-true u budget e))) (λ e. tt)
  reach_on x (suc n) s u h =
      by_test ReachOn (ltb u budget) _ _
      (λ e.
      let g : U (u + 1) = (omega (arith, h.0), omega (arith, ltb-true u budget e)) in
      by_test ReachOn _ _ _ (λ t. reach_on x n (s + 1) (u + 1) g) (λ t. g))
      (λ e. tt)

  module _ (rest : Rest) (on : (s l : ℕ) (cs : List Capture) (u : ℕ) → b ≤ s → U u → Onward (rest s l cs u)) where
    longest_on : (i s l : ℕ) (cs : List Capture) (u : ℕ) → b ≤ s → U u → Onward (longest_first rest i s l cs u)
    unfolding longest_first
    longest_on zero s l cs u p h = level_on l u _ (λ m. on s m cs u p h)
    longest_on (suc i) s l cs u p h =
        else_on _ _ (level_on l u _ (λ m. on (s + suc i) m cs u (omega arith) h)) (λ v g. longest_on i s l cs v p g)

    max_on : (r : Reach) (s l : ℕ) (cs : List Capture) → b ≤ s → ReachOn r → Onward (max_expand r rest s l cs)
    unfolding max_expand
    max_on (reached e u) s l cs p h = longest_on (e - s) s l cs u p h
    max_on (spent u) s l cs p h = stops 27 0 u

    min_on : (x : Single) (n s l : ℕ) (cs : List Capture) (u : ℕ) → b ≤ s → U u → Onward (min_expand in_class sub budget x rest n s l cs u)
    unfolding min_expand
    min_on x zero s l cs u p h = due_on u _ h (λ v g. fails v g)
    min_on x (suc n) s l cs u p h =
        due_on u _ h
        (λ v g.
        by_test Onward _ _ _
        (λ t. else_on _ _ (level_on l v _ (λ m. on (s + 1) m cs v (omega arith) g)) (λ x' k. min_on x n (s + 1) l cs x' (omega arith) k))
        (λ t. fails v g))

    expand_on : (x : Single) (r : Repeat) (s l : ℕ) (cs : List Capture) (u : ℕ) → b ≤ s → U u → Onward (expand in_class sub budget x r rest s l cs u)
    unfolding expand
    expand_on x once s l cs u p h = on (s + 1) l cs u (omega arith) h
    expand_on x optional s l cs u p h = else_on _ _ (level_on l u _ (λ m. on (s + 1) m cs u (omega arith) h)) (λ v g. on s l cs v p g)
    expand_on x star s l cs u p h = max_on _ s l cs p (reach_on x (length sub - (s + 1)) (s + 1) u h)
    expand_on x plus s l cs u p h = max_on _ (s + 1) l cs (omega arith) (reach_on x (length sub - (s + 1)) (s + 1) u h)
    expand_on x minus s l cs u p h =
        else_on _ _ (level_on l u _ (λ m. on s m cs u p h))
        (λ v g.
        else_on _ _ (level_on l v _ (λ m. on (s + 1) m cs v (omega arith) g))
        (λ x' k. min_on x (length sub - (s + 1)) (s + 1) l cs x' (omega arith) k))

    passed_on : (r : Repeat) (s l : ℕ) (cs : List Capture) (u : ℕ) → b ≤ s → U u → Onward (passed_over r rest s l cs u)
    unfolding passed_over
    passed_on once s l cs u p h = fails u h
    passed_on optional s l cs u p h = on s l cs u p h
    passed_on star s l cs u p h = on s l cs u p h
    passed_on plus s l cs u p h = fails u h
    passed_on minus s l cs u p h = on s l cs u p h

    abbrev Later : ℕ → Option ℕ → Type 0
    Later s None = Unit {0}
    Later s (Some e) = s ≤ e

    balance_later : (x y n depth s t : ℕ) → t ≤ s → Later t (balance_end sub x y n depth s)
    unfolding balance_end
    balance_later x y zero depth s t h = tt
    balance_later x y (suc n) depth s t h =
        by_test (Later t) (eqb (byte_at sub s) y) _ _
        (λ e. by_test (Later t) (eqb depth 1) _ _ (λ f. omega arith) (λ f. balance_later x y n (depth - 1) (s + 1) t (omega arith)))
        (λ e.
        by_test (Later t) (eqb (byte_at sub s) x) _ _ (λ f. balance_later x y n (depth + 1) (s + 1) t (omega arith))
        (λ f. balance_later x y n depth (s + 1) t (omega arith)))

    matching_later : (x y s : ℕ) → Later s (match_balance sub x y s)
    unfolding match_balance
    matching_later x y s = by_test (Later s) _ _ _ (λ t. balance_later x y (length sub - (s + 1)) 1 (s + 1) s (omega arith)) (λ t. tt)

    goes_on : (e : Option ℕ) (s l : ℕ) (cs : List Capture) (u : ℕ) → b ≤ s → Later s e → U u → Onward (goes_on_at e rest l cs u)
    unfolding goes_on_at
    goes_on None s l cs u p q h = fails u h
    goes_on (Some e) s l cs u p q h = on e l cs u (omega arith) h

    start_on : (c : Capture) (s l : ℕ) (cs : List Capture) (u : ℕ) → b ≤ s → U u → Onward (do_start_capture c rest s l cs u)
    unfolding do_start_capture
    start_on c s l cs u p h = by_test Onward (ltb (length cs) 32) _ _ (λ t. level_on l u _ (λ m. on s m _ u p h)) (λ t. stops 29 8 u)

    end_on : (o : Option ℕ) (s l : ℕ) (cs : List Capture) (u : ℕ) → b ≤ s → U u → Onward (do_end_capture o rest s l cs u)
    unfolding do_end_capture
    end_on None s l cs u p h = stops 29 5 u
    end_on (Some i) s l cs u p h = level_on l u _ (λ m. on s m _ u p h)

    capture_on : (c : Capture) (s l : ℕ) (cs : List Capture) (u : ℕ) → b ≤ s → U u → Onward (match_capture sub c rest s l cs u)
    unfolding match_capture
    capture_on (opened start) s l cs u p h = stops 29 7 u
    capture_on (position start) s l cs u p h = fails u h
    capture_on (closed start n) s l cs u p h = by_test Onward _ _ _ (λ t. on (s + n) l cs u (omega arith) h) (λ t. fails u h)

    back_on : (d s l : ℕ) (cs : List Capture) (u : ℕ) → b ≤ s → U u → Onward (do_back_reference sub d rest s l cs u)
    unfolding do_back_reference
    back_on d s l cs u p h = by_test Onward _ _ _ (λ t. capture_on (get_or cs (d - 1) (opened 0)) s l cs u p h) (λ t. stops 29 7 u)

    item_on : (i : Item) (s l : ℕ) (cs : List Capture) (u : ℕ) → b ≤ s → U u → Onward (do_item in_class sub budget i rest s l cs u)
    unfolding do_item
    item_on start_capture s l cs u p h = start_on (opened s) s l cs u p h
    item_on position_capture s l cs u p h = start_on (position s) s l cs u p h
    item_on end_capture s l cs u p h = end_on (capture_to_close cs) s l cs u p h
    item_on end_anchor s l cs u p h = by_test Onward (eqb s (length sub)) _ _ (λ t. record { ends = (p, h) }) (λ t. fails u h)
    item_on (balance x y) s l cs u p h = goes_on _ s l cs u p (matching_later x y s) h
    item_on (frontier x) s l cs u p h = by_test Onward _ _ _ (λ t. on s l cs u p h) (λ t. fails u h)
    item_on (back_reference d) s l cs u p h = back_on d s l cs u p h
    item_on (single x r) s l cs u p h = by_test Onward _ _ _ (λ t. expand_on x r s l cs u p h) (λ t. passed_on r s l cs u p h)
    item_on (raises kind) s l cs u p h = stops 29 kind u

  match_on : (is : List Item) (s l : ℕ) (cs : List Capture) (u : ℕ) → b ≤ s → U u → Onward (match in_class sub budget is s l cs u)
  unfolding match
  match_on [] s l cs u p h = due_on u _ h (λ v g. record { ends = (p, g) })
  match_on (i ∷ is) s l cs u p h =
      due_on u _ h (λ v g. item_on (match in_class sub budget is) (λ s l cs u p h. match_on is s l cs u p h) i s l cs v p g)

  -- the first step is taken before all else
  first_on : (is : List Item) (s l : ℕ) (cs : List Capture) (u : ℕ) → b ≤ s → w ≡ u + 1 → Onward (match in_class sub budget is s l cs u)
  unfolding match due
  first_on [] s l cs u p e =
      by_test Onward (ltb u budget) _ _ (λ t. record { ends = (p, (omega arith, omega (arith, ltb-true u budget t))) }) (λ t. stops 27 0 u)
  first_on (i ∷ is) s l cs u p e =
      by_test Onward (ltb u budget) _ _
      (λ t.
      item_on (match in_class sub budget is) (λ s l cs u p h. match_on is s l cs u p h) i s l cs (u + 1) p (omega arith, omega (arith, ltb-true u budget t)))
      (λ t. stops 27 0 u)

-- an attempt from place s after u steps
pub onward : (in_class : ℕ → ℕ → Bool) (sub : List ℕ) (budget : ℕ) (is : List Item) (s u : ℕ) → Onward in_class sub budget s (u + 1) (match in_class sub budget is s 1 [] u)
onward in_class sub budget is s u = first_on in_class sub budget s (u + 1) is s 1 [] u (omega arith) refl
