-- A call that takes lines, and the listing: what it writes, and then the listing of what it leaves.
-- Assumes nothing.
use mathlib.Core.Path.{◌≡◌, refl, sym, ap, subst, ◌∙◌}
use mathlib.Core.Logic.{◌⊎◌, inl, inr}
use Prim.Native.Nat.{ℕ, zero, suc, ◌+◌, ◌*◌, ◌-◌, ◌<◌, ◌≤◌}
use native.Mathlib.Omega.{arith}
use mathlib.Core.Bool.{Bool, true, false, ◌||◌}
use mathlib.Core.List.{List, [], ◌++◌, append_assoc}
use lib.ListN.{length, take, drop, length-drop, length-append}
use lib.Seq.{drop-drop, drop-length}
use lib.Dec.{ltb}
use borrow.Author.Tests.{ltb-true, ltb-false}
use Rattle.luck_text.proofs.Cases.{by_test, order, same}
use Rattle.luck_line.specs.Line.{longest}
use Rattle.luck_line.specs.Row.{answer_row}
use Rattle.luck_lines.specs.Stream.{line_length, answer_after, too_long, counted, Taken, taken, FeedState, feed_state, unended, feed, listing_after}
use Rattle.luck_lines.specs.declared.stream.State.{State}
use Rattle.luck_lines.proofs.Listings.{after_line, after_long}
use Rattle.luck_lines.proofs.Streams.{on, starts, at_end, no_newline, no_room, answer, after, line_taken, line_inside, input_ends, answer_length}

or_false : (a b : Bool) → (a || b) ≡ false → (a ≡ false) × (b ≡ false)
or_false true b e = absurd_true e
  where
    absurd_true : true ≡ false → (true ≡ false) × (b ≡ false)
    absurd_true f = let z : ◌≡◌ {A = ℕ} 0 1 = cc in absurd (omega arith)
or_false false b e = (refl, e)

or_true : (a b : Bool) → (a || b) ≡ true → a ≡ false → b ≡ true
or_true true b e f = let z : ◌≡◌ {A = ℕ} 0 1 = cc in absurd (omega arith)
or_true false b e f = e

-- What each turn hands back from the state after it to the state before it, a call has of the state that it begins in.
module _ (input : List ℕ) (room : ℕ) (R : ℕ → FeedState → Taken → Type 0)
    (ended : (p : ℕ) (s : FeedState) → p ≤ length input → p + line_length (drop p input) ≡ length input → R p s (unended input p s))
    (full : (p : ℕ) (written : List ℕ) (s : State) → room - length written < 19 → R p (feed_state written s) (taken p written s))
    (line : (p : ℕ) (written : List ℕ) (s : State) (h : p < length input) (n : p + line_length (drop p input) ≡ length input → ⊥) (t : Taken)
    → 19 ≤ room - length written → R (p + (line_length (drop p input) + 1)) (after input room p written s h n) t → R p (feed_state written s) t) where
  module _ (p : ℕ) (further : (q : ℕ) (s : FeedState) → p < q → q ≤ length input → R q s (on input room q s)) where
    by_room : (written : List ℕ) (s : State) → p < length input → (p + line_length (drop p input) ≡ length input → ⊥)
        → (room - length written < 19) ⊎ (19 ≤ room - length written) → R p (feed_state written s) (on input room p (feed_state written s))
    by_room written s l n (inl r) = subst (R p (feed_state written s)) (sym (no_room input room p written s l n r)) (full p written s r)
    by_room written s l n (inr r) =
        subst (R p (feed_state written s)) (sym (line_taken input room p written s l n r))
        (line p written s l n _ r
        (further (p + (line_length (drop p input) + 1)) (after input room p written s l n) (omega arith) (omega (arith, line_inside input p (omega arith), n))))

    by_newline : (s : FeedState) → p < length input → (p + line_length (drop p input) ≡ length input) ⊎ (p + line_length (drop p input) ≡ length input → ⊥)
        → R p s (on input room p s)
    by_newline s l (inl e) = subst (R p s) (sym (no_newline input room p s l e)) (ended p s (omega arith) e)
    by_newline s l (inr n) = by_room s.written s.state l n (order (room - length s.written) 19)

    by_place : (s : FeedState) → (p < length input) ⊎ (length input ≤ p) → p ≤ length input → R p s (on input room p s)
    by_place s (inl l) h = by_newline s l (same (p + line_length (drop p input)) (length input))
    by_place s (inr l) h = subst (R p s) (sym (at_end input room p s l)) (ended p s h (omega (arith, input_ends input p l)))

  -- by the bytes that are left
  by_left : (left p : ℕ) (s : FeedState) → length input ≤ p + left → p ≤ length input → R p s (on input room p s)
  by_left zero p s f h = by_place p (λ q t l g. absurd (omega arith)) s (order p (length input)) h
  by_left (suc left) p s f h = by_place p (λ q t l g. by_left left q t (omega arith) g) s (order p (length input)) h

  pub every_call : (s : State) → R 0 (feed_state [] s) (feed input room s)
  every_call s = subst (R 0 (feed_state [] s)) (starts input room s) (by_left (length input) 0 (feed_state [] s) (omega arith) (omega arith))

-- ---- What is due

module _ (input rest : List ℕ) (room : ℕ) where
  -- the rows so far, and what is due from a place on
  abbrev due : List ℕ → State → ℕ → List ℕ
  due written s p = written ++ listing_after s (drop p input ++ rest)

  -- a state, and the answer that it leads to
  abbrev Leads : ℕ → FeedState → Taken → Type 0
  Leads p s t = due s.written s.state p ≡ due t.written t.state t.used

  ends_long : (p : ℕ) (s : FeedState) → p ≤ length input → p + line_length (drop p input) ≡ length input → (s.state.long || ltb longest (length input - p)) ≡ true
      → Leads p s (taken (length input) s.written (too_long s.state))
  ends_long p s h e t =
      ap (λ (x : List ℕ). s.written ++ x)
      (after_long s.state (drop p input) rest (omega (arith, e, length-drop p input)) (λ f. omega (arith, ltb-true longest (length input - p) (or_true _ _ t f), length-drop p input))
      ∙ ap (λ (x : List ℕ). listing_after (too_long s.state) (x ++ rest)) (sym (drop-length input)))

  ends_there : (p : ℕ) (s : FeedState) → p ≤ length input → p + line_length (drop p input) ≡ length input → Leads p s (unended input p s)
  unfolding unended
  ends_there p s h e = by_test (Leads p s) (s.state.long || ltb longest (length input - p)) _ _ (ends_long p s h e) (λ t. refl)

  line_due : (p : ℕ) (written : List ℕ) (s : State) (h : p < length input) (n : p + line_length (drop p input) ≡ length input → ⊥)
      → due written s p ≡ due (after input room p written s h n).written (after input room p written s h n).state (p + (line_length (drop p input) + 1))
  line_due p written s h n =
      let m = line_length (drop p input) in
      let a = answer_after s.long (take m (drop p input)) in
      let shorter : m < length (drop p input) = omega (arith, line_inside input p (omega arith), length-drop p input, n) in
      let line : m ≡ p + m - p = omega arith in
      let on_at : p + suc m ≡ p + (m + 1) = omega arith in
      ap (λ (x : List ℕ). written ++ x) (after_line s (drop p input) rest shorter)
      ∙ sym (append_assoc written (answer_row a) (listing_after (counted s a.number) (drop (suc m) (drop p input) ++ rest)))
      ∙ ap (λ (x : List ℕ). (written ++ answer_row a) ++ listing_after (counted s a.number) (x ++ rest)) (drop-drop (suc m) p input ∙ ap (λ (k : ℕ). drop k input) on_at)
      ∙ ap (λ (x : ℕ). due (written ++ answer_row (answer_after s.long (take x (drop p input)))) (counted s (answer_after s.long (take x (drop p input))).number) (p + (m + 1))) line

  pub cut : (s : State) → listing_after s (input ++ rest) ≡ (feed input room s).written ++ listing_after (feed input room s).state (drop (feed input room s).used input ++ rest)
  cut s = every_call input room Leads ends_there (λ p written s r. refl) (λ p written s h n t r e. line_due p written s h n ∙ e) s

-- ---- What is left

module _ (input : List ℕ) (room : ℕ) where
  -- after place p no newline is left
  abbrev pub NoNewline : ℕ → Type 0
  NoNewline p = line_length (drop p input) ≡ length (drop p input)

  at_the_end : NoNewline (length input)
  at_the_end = omega (arith, input_ends input (length input) (omega arith), length-drop (length input) input)

  -- rows are only added; and where there was room for one and none was added, what is left is short and has no newline
  abbrev Leaves : ℕ → FeedState → Taken → Type 0
  Leaves p s t =
      (length s.written ≤ length t.written)
      × (19 ≤ room - length s.written → length t.written ≡ length s.written → (length input - t.used ≤ 4005) × NoNewline t.used)

  short_left : (p : ℕ) (s : FeedState) → p ≤ length input → p + line_length (drop p input) ≡ length input → Leaves p s (unended input p s)
  unfolding unended
  short_left p s h e =
      by_test (Leaves p s) (s.state.long || ltb longest (length input - p)) _ _
      (λ t. (omega arith, λ r q. (omega arith, at_the_end)))
      (λ t. (
        omega arith,
        λ r q. (ltb-false longest (length input - p) (or_false s.state.long (ltb longest (length input - p)) t).1, omega (arith, e, length-drop p input)),
      ))

  -- a row is added for a line
  row_added : (p : ℕ) (written : List ℕ) (s : State) (h : p < length input) (n : p + line_length (drop p input) ≡ length input → ⊥)
      → length (after input room p written s h n).written ≡ length written + 19
  row_added p written s h n = let a = answer input room p written s h n in omega (arith, length-append written (answer_row a), answer_length a)

  pub left_short : (s : State) → 19 ≤ room → (feed input room s).written ≡ []
      → (length input - (feed input room s).used ≤ 4005) × NoNewline (feed input room s).used
  left_short s h e =
      (every_call input room Leaves short_left (λ p written s r. (omega arith, λ q z. absurd (omega arith)))
      (λ p written s g n t r more.
      let longer = row_added p written s g n in
      (omega (arith, longer, more.0), λ q z. absurd (omega (arith, longer, more.0, z))))
      s).1 (omega arith) (ap length e)

  -- with room for a row for every byte, every line is taken
  abbrev Clear : ℕ → FeedState → Taken → Type 0
  Clear p s t = 19 * (length input - p) + length s.written ≤ room → NoNewline t.used

  clear_there : (p : ℕ) (s : FeedState) → p ≤ length input → p + line_length (drop p input) ≡ length input → Clear p s (unended input p s)
  unfolding unended
  clear_there p s h e =
      by_test (Clear p s) (s.state.long || ltb longest (length input - p)) _ _ (λ t r. at_the_end) (λ t r. omega (arith, e, length-drop p input))

  pub all_taken : (s : State) → 19 * length input ≤ room → NoNewline (feed input room s).used
  all_taken s h =
      every_call input room Clear clear_there (λ p written s r q. omega (arith, input_ends input p (omega arith), length-drop p input))
      (λ p written s g n t r more q. more (omega (arith, row_added p written s g n, g, q)))
      s (omega arith)
