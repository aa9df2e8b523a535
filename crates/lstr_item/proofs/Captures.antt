-- Laws of captures: the code's pairs as the list of captures, where they lie, the one to close, a back-reference, and what is kept of them.
-- Assumes nothing.
use Rattle.std.specs.Prelude.{Option, None, Some, IsTrue, ◌↔◌}
use Prim.Native.Nat.{ℕ, zero, suc, ◌+◌, ◌-◌, ◌<◌, ◌≤◌}
use native.Mathlib.Omega.{arith}
use native.Mathlib.Numerals.{add-one}
use mathlib.Core.Path.{◌≡◌, refl, sym, ap, subst, ◌∙◌}
use mathlib.Core.Bool.{Bool, true, false}
use mathlib.Core.List.{List, [], ◌∷◌, ◌++◌}
use lib.ListN.{length, get_or, set, take}
use lib.Dec.{eqb, ltb, leb}
use borrow.Author.Tests.{lt-ltb, le-ltb, le-leb, lt-leb, eq-eqb, ne_eqb, eqb-true, eqb-false}
use Rattle.std.proofs.lemmas.List.{length-take-le, get_or-take}
use Rattle.luck_text.specs.Bytes.{when◌then◌else◌}
use Rattle.luck_text.proofs.Cases.{by_test, second_false}
use Rattle.lstr_item.specs.Match.{Capture, opened, position, closed, start_of, is_finished, capture_to_close, Outcome, Rest, raised, failed, new_level, do_start_capture, do_end_capture, match_capture, do_back_reference}
use Rattle.luck_pattern.specs.Captures.{open_by, latest_open}
use Rattle.lstr_class.specs.Subject.{same_bytes}
use Rattle.lstr_item.specs.Inner.{unfinished, positional, capture_of, no_pair, pairs_of, captures_in, PairIn, Sound, KeptIn}
use Rattle.lstr_item.specs.declared.capture.Pair.{Pair}
use Rattle.lstr_item.specs.declared.capture.Captures.{Captures}

-- ---- One capture, by its length

module _ (start len : ℕ) where
  pub is_open : len ≡ unfinished → capture_of start len ≡ opened start
  unfolding capture_of when◌then◌else◌
  is_open e = rw (eq-eqb len unfinished e)

  pub is_position : len ≡ positional → capture_of start len ≡ position start
  unfolding capture_of when◌then◌else◌
  is_position e = rw (ne_eqb len unfinished (λ f. omega arith), eq-eqb len positional e)

  pub is_closed : (len ≡ unfinished → ⊥) → (len ≡ positional → ⊥) → capture_of start len ≡ closed start len
  unfolding capture_of when◌then◌else◌
  is_closed e f = rw (ne_eqb len unfinished e, ne_eqb len positional f)

  pub start_of_lem : start_of (capture_of start len) ≡ start
  unfolding capture_of
  start_of_lem =
      by_test (λ c. start_of c ≡ start) (eqb len unfinished) _ _ (λ _. refl)
      (λ _. by_test (λ c. start_of c ≡ start) (eqb len positional) _ _ (λ _. refl) (λ _. refl))

  stays_none : (len ≡ unfinished → ⊥) → open_by (is_finished (capture_of start len)) None ≡ None
  unfolding capture_of when◌then◌else◌
  stays_none e =
      rw (ne_eqb len unfinished e)
      (by_test (λ c. open_by (is_finished c) None ≡ None) (eqb len positional) (position start) (closed start len) (λ _. refl) (λ _. refl))

-- ---- The pairs as a list of captures

abbrev of_pair : Pair → Capture
of_pair q = capture_of q.start q.len

pub pairs_length : (n : ℕ) (pairs : List Pair) → n ≤ length pairs → length (pairs_of n pairs) ≡ n
unfolding pairs_of
pairs_length zero pairs h = refl
pairs_length (suc n) [] h = absurd (omega arith)
pairs_length (suc n) (q ∷ pairs) h = ap suc (pairs_length n pairs (omega arith))

pub pairs_get : (n : ℕ) (pairs : List Pair) (i : ℕ) (d : Capture) → i < n → n ≤ length pairs
    → get_or (pairs_of n pairs) i d ≡ capture_of (get_or pairs i no_pair).start (get_or pairs i no_pair).len
unfolding pairs_of
pairs_get zero pairs i d h l = absurd (omega arith)
pairs_get (suc n) [] i d h l = absurd (omega arith)
pairs_get (suc n) (q ∷ pairs) zero d h l = refl
pairs_get (suc n) (q ∷ pairs) (suc i) d h l = pairs_get n pairs i d (omega arith) (omega arith)

pub pairs_start : (n : ℕ) (pairs : List Pair) (i : ℕ) → i < n → n ≤ length pairs → start_of (get_or (pairs_of n pairs) i (opened 0)) ≡ (get_or pairs i no_pair).start
pairs_start n pairs i h l = ap start_of (pairs_get n pairs i (opened 0) h l) ∙ start_of_lem _ _

-- one more pair, behind the n
pairs_suc : (n : ℕ) (pairs : List Pair) (q : Pair) → n < length pairs → pairs_of (suc n) (set pairs n q) ≡ pairs_of n pairs ++ (of_pair q ∷ [])
unfolding pairs_of
pairs_suc n [] q h = absurd (omega arith)
pairs_suc zero (p ∷ pairs) q h = refl
pairs_suc (suc n) (p ∷ pairs) q h = ap (λ (l : List Capture). of_pair p ∷ l) (pairs_suc n pairs q (omega arith))

pub pairs_more : (n : ℕ) (pairs : List Pair) (q : Pair) → n < length pairs → pairs_of (n + 1) (set pairs n q) ≡ pairs_of n pairs ++ (capture_of q.start q.len ∷ [])
pairs_more n pairs q h = ap (λ (m : ℕ). pairs_of m (set pairs n q)) (add-one n) ∙ pairs_suc n pairs q h

-- another pair in the place of the i-th
pub pairs_set : (n : ℕ) (pairs : List Pair) (i : ℕ) (q : Pair) → pairs_of n (set pairs i q) ≡ set (pairs_of n pairs) i (capture_of q.start q.len)
unfolding pairs_of
pairs_set zero pairs i q = refl
pairs_set (suc n) [] i q = refl
pairs_set (suc n) (p ∷ pairs) zero q = refl
pairs_set (suc n) (p ∷ pairs) (suc i) q = ap (λ (l : List Capture). of_pair p ∷ l) (pairs_set n pairs i q)

-- ---- The pairs after start_capture and after end_capture

abbrev Pairs : Type 0
Pairs = List Pair

-- the n pairs lie before place s
abbrev pub EachIn : ℕ → ℕ → Pairs → Type 0
EachIn s n pairs = (i : ℕ) → i < n → PairIn s (get_or pairs i no_pair)

abbrev pub started : ℕ → Pairs → ℕ → ℕ → Pairs
started n pairs place len = set pairs n (record { start = place; len = len })

-- the capture i, which began at `start`, ends at `place`
abbrev pub finished : Pairs → ℕ → ℕ → ℕ → Pairs
finished pairs i start place = set pairs i (record { start = start; len = place - start })

finished_captures : (n : ℕ) (pairs : Pairs) (i start place : ℕ) → place < positional
    → pairs_of n (finished pairs i start place) ≡ set (pairs_of n pairs) i (closed start (place - start))
finished_captures n pairs i start place h =
    pairs_set n pairs i (record { start = start; len = place - start })
    ∙ ap (set (pairs_of n pairs) i) (is_closed start (place - start) (λ e. omega arith) (λ e. omega arith))

pair_later : (s t : ℕ) (q : Pair) → s ≤ t → PairIn s q → PairIn t q
pair_later s t q h p = (omega (arith, p.0), λ l. omega (arith, p.1 l))

pub sound_later : (c : Captures) (s t : ℕ) → s ≤ t → Sound s c → Sound t c
sound_later c s t h w = record { each = λ i l. pair_later s t _ h (w.each i l) }

pub sound_one : (place : ℕ) (q : Pair) (pairs : Pairs) → PairIn place q → EachIn place 1 (q ∷ pairs)
sound_one place q pairs w zero h = w
sound_one place q pairs w (suc i) h = absurd (omega arith)

-- ---- capture_to_close, from the last pair on

pub close_none : (n : ℕ) (pairs : List Pair) → n ≤ 0 → capture_to_close (pairs_of n pairs) ≡ None
unfolding pairs_of capture_to_close latest_open
close_none zero pairs h = refl
close_none (suc n) pairs h = absurd (omega arith)

closes_last : (n : ℕ) (pairs : List Pair) → (get_or pairs n no_pair).len ≡ unfinished → capture_to_close (pairs_of (suc n) pairs) ≡ Some n
unfolding pairs_of capture_to_close latest_open
closes_last n [] e = absurd (omega arith)
closes_last zero (q ∷ pairs) e = rw (is_open q.start q.len e)
closes_last (suc n) (q ∷ pairs) e = ap (open_by (is_finished (of_pair q))) (closes_last n pairs e)

passes_last : (n : ℕ) (pairs : List Pair) → ((get_or pairs n no_pair).len ≡ unfinished → ⊥) → capture_to_close (pairs_of (suc n) pairs) ≡ capture_to_close (pairs_of n pairs)
unfolding pairs_of capture_to_close latest_open
passes_last zero [] e = refl
passes_last (suc n) [] e = refl
passes_last zero (q ∷ pairs) e = stays_none q.start q.len e
passes_last (suc n) (q ∷ pairs) e = ap (open_by (is_finished (of_pair q))) (passes_last n pairs e)

module _ (n : ℕ) (pairs : List Pair) (h : 0 < n) where
  one_before : n ≡ suc (n - 1)
  one_before = omega arith

  pub close_last : (get_or pairs (n - 1) no_pair).len ≡ unfinished → capture_to_close (pairs_of n pairs) ≡ Some (n - 1)
  close_last e = ap (λ (m : ℕ). capture_to_close (pairs_of m pairs)) one_before ∙ closes_last (n - 1) pairs e

  pub close_earlier : ((get_or pairs (n - 1) no_pair).len ≡ unfinished → ⊥) → capture_to_close (pairs_of n pairs) ≡ capture_to_close (pairs_of (n - 1) pairs)
  close_earlier e = ap (λ (m : ℕ). capture_to_close (pairs_of m pairs)) one_before ∙ passes_last (n - 1) pairs e

open_below : (done : Bool) (o : Option ℕ) (n i : ℕ) → ((j : ℕ) → o ≡ Some j → j < n) → open_by done o ≡ Some i → i < suc n
open_below done (Some j) n i w e = let f : suc j ≡ i = cc in let g : j < n = w j refl in omega arith
open_below true None n i w e = cc
open_below false None n i w e = let f : ◌≡◌ {A = ℕ} 0 i = cc in omega arith

-- the one to close is among the n
pub close_below : (n : ℕ) (pairs : Pairs) (i : ℕ) → capture_to_close (pairs_of n pairs) ≡ Some i → i < n
unfolding pairs_of capture_to_close latest_open
close_below zero pairs i e = cc
close_below (suc n) [] i e = cc
close_below (suc n) (q ∷ pairs) i e = open_below _ _ n i (close_below n pairs) e

-- the latest is the one to close where it is open
module _ (n : ℕ) (pairs : Pairs) where
  abbrev LatestToClose : Bool → Type 0
  LatestToClose here = IsTrue here ↔ (capture_to_close (pairs_of n pairs) ≡ Some (n - 1))

  pub none_is_open : n ≤ 0 → LatestToClose (ltb 0 n)
  none_is_open h = let e = close_none n pairs h in subst LatestToClose (sym (le-ltb 0 n h)) (λ t. cc, λ f. cc)

  latest_by : 0 < n → (b : Bool) → eqb (get_or pairs (n - 1) no_pair).len unfinished ≡ b → LatestToClose b
  latest_by h true e = (λ _. close_last n pairs h (eqb-true _ _ e), λ _. refl)
  latest_by h false e =
      let closed_here = eqb-false (get_or pairs (n - 1) no_pair).len unfinished e in
      (λ t. cc, λ f. let below = close_below (n - 1) pairs (n - 1) (sym (close_earlier n pairs h closed_here) ∙ f) in absurd (omega arith))

  pub latest_is_open : 0 < n → LatestToClose (eqb (get_or pairs (n - 1) no_pair).len unfinished)
  latest_is_open h = latest_by h _ refl

-- ---- start_capture and end_capture, by what they find

module _ (n : ℕ) (pairs : Pairs) (whole : length pairs ≡ 32) (few : n ≤ 32) (rest : Rest) (s l u : ℕ) where
  -- the rest at a new level, with these captures
  abbrev goes_on : List Capture → Outcome
  goes_on cs = new_level l u (λ m. rest s m cs u)

  pub all_taken : (x : Capture) → 32 ≤ n → raised 8 u ≡ do_start_capture x rest s l (pairs_of n pairs) u
  unfolding do_start_capture when◌then◌else◌
  all_taken x h = rw (pairs_length n pairs (omega arith), le-ltb n 32 h)

  one_left : (x : Capture) → n < 32 → do_start_capture x rest s l (pairs_of n pairs) u ≡ goes_on (pairs_of n pairs ++ (x ∷ []))
  unfolding do_start_capture when◌then◌else◌
  one_left x h = rw (pairs_length n pairs (omega arith), lt-ltb n 32 h)

  pub starts_capture : (len : ℕ) → n < 32 → goes_on (pairs_of (n + 1) (started n pairs s len)) ≡ do_start_capture (capture_of s len) rest s l (pairs_of n pairs) u
  starts_capture len h = ap goes_on (pairs_more n pairs (record { start = s; len = len }) (omega arith)) ∙ sym (one_left (capture_of s len) h)

  pub none_to_close : None ≡ capture_to_close (pairs_of n pairs) → raised 5 u ≡ do_end_capture (capture_to_close (pairs_of n pairs)) rest s l (pairs_of n pairs) u
  unfolding do_end_capture
  none_to_close e = ap (λ (o : Option ℕ). do_end_capture o rest s l (pairs_of n pairs) u) e

  pub ends_capture : (i : ℕ) → Some i ≡ capture_to_close (pairs_of n pairs) → i < n → s < positional
      → goes_on (pairs_of n (finished pairs i (get_or pairs i no_pair).start s)) ≡ do_end_capture (capture_to_close (pairs_of n pairs)) rest s l (pairs_of n pairs) u
  unfolding do_end_capture
  ends_capture i e h k =
      ap goes_on (finished_captures n pairs i (get_or pairs i no_pair).start s k)
      ∙ ap (λ (start : ℕ). goes_on (set (pairs_of n pairs) i (closed start (s - start)))) (sym (pairs_start n pairs i h (omega arith)))
      ∙ ap (λ (o : Option ℕ). do_end_capture o rest s l (pairs_of n pairs) u) e

-- ---- match_capture, by its tests

module _ (sub : List ℕ) (n : ℕ) (pairs : List Pair) (d : ℕ) (rest : Rest) (s l u : ℕ) where
  abbrev referred : Outcome
  referred = do_back_reference sub d rest s l (pairs_of n pairs) u

  pub no_digit : d ≡ 0 → raised 7 u ≡ referred
  unfolding do_back_reference when◌then◌else◌
  no_digit e = rw (le-ltb 0 d (omega arith))

  module _ (few : n ≤ length pairs) (h : d ≡ 0 → ⊥) where
    pub no_capture : n ≤ d - 1 → raised 7 u ≡ referred
    unfolding do_back_reference when◌then◌else◌
    no_capture k = rw (lt-ltb 0 d (omega arith), pairs_length n pairs few, lt-leb d n (omega arith))

    module _ (k : d - 1 < n) where
      abbrev start : ℕ
      start = (get_or pairs (d - 1) no_pair).start

      abbrev len : ℕ
      len = (get_or pairs (d - 1) no_pair).len

      abbrev tried : Capture → Outcome
      tried c = match_capture sub c rest s l (pairs_of n pairs) u

      found : referred ≡ tried (capture_of start len)
      unfolding do_back_reference when◌then◌else◌
      found = rw (lt-ltb 0 d (omega arith), pairs_length n pairs few, le-leb d n (omega arith), pairs_get n pairs (d - 1) (opened 0) k few)

      pub refers_open : len ≡ unfinished → raised 7 u ≡ referred
      unfolding match_capture
      refers_open e = sym (found ∙ ap tried (is_open start len e))

      pub refers_position : len ≡ positional → failed u ≡ referred
      unfolding match_capture
      refers_position e = sym (found ∙ ap tried (is_position start len e))

      module _ (e : len ≡ unfinished → ⊥) (f : len ≡ positional → ⊥) where
        refers_closed : referred ≡ tried (closed start len)
        refers_closed = found ∙ ap tried (is_closed start len e f)

        pub too_long : length sub - s < len → failed u ≡ referred
        unfolding match_capture when◌then◌else◌
        too_long m = sym (refers_closed ∙ rw (lt-leb len (length sub - s) m))

        pub other_bytes : same_bytes sub len start s ≡ false → failed u ≡ referred
        unfolding match_capture when◌then◌else◌
        other_bytes q = sym (refers_closed ∙ rw (second_false (leb len (length sub - s)) (same_bytes sub len start s) q))

        pub equal_bytes : len ≤ length sub - s → same_bytes sub len start s ≡ true → rest (s + len) l (pairs_of n pairs) u ≡ referred
        unfolding match_capture when◌then◌else◌
        equal_bytes m q = sym (refers_closed ∙ rw (le-leb len (length sub - s) m, q))

-- ---- What is kept

pub kept_later : (n : ℕ) (kept : List Pair) (s t : ℕ) → s ≤ t → KeptIn s n kept → KeptIn t n kept
kept_later n kept s t h w = record { few = w.few; room = w.room; each = λ i l. pair_later s t _ h (w.each i l) }

-- lists whose first n pairs are the same
pub same_pairs : (n : ℕ) (a b : Pairs) → n ≤ length a → n ≤ length b → ((k : ℕ) → k < n → get_or a k no_pair ≡ get_or b k no_pair) → pairs_of n a ≡ pairs_of n b
unfolding pairs_of
same_pairs zero a b la lb h = refl
same_pairs (suc n) [] b la lb h = absurd (omega arith)
same_pairs (suc n) (x ∷ a) [] la lb h = absurd (omega arith)
same_pairs (suc n) (x ∷ a) (y ∷ b) la lb h =
    ap (λ (q : Pair). of_pair q ∷ pairs_of n a) (h 0 (omega arith))
    ∙ ap (λ (cs : List Capture). of_pair y ∷ cs) (same_pairs n a b (omega arith) (omega arith) (λ k l. h (suc k) (omega arith)))

-- the first n pairs are all that the list of them has
pub captures_part : (n : ℕ) (kept : List Pair) → captures_in (take n kept) ≡ pairs_of n kept
unfolding captures_in pairs_of
captures_part zero kept = refl
captures_part (suc n) [] = refl
captures_part (suc n) (q ∷ kept) = ap (λ (cs : List Capture). of_pair q ∷ cs) (captures_part n kept)

pub kept_part : (s n : ℕ) (kept : List Pair) → KeptIn s n kept → KeptIn s (length (take n kept)) (take n kept)
kept_part s n kept w =
    let e : length (take n kept) ≡ n = length-take-le n kept w.room in
    record { few = omega (arith, w.few); room = omega arith; each = λ i l. let k : i < n = omega arith in rw (get_or-take n kept i no_pair k) (w.each i k) }
