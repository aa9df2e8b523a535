-- Laws of a call that takes lines: each turn of its loop, the output, and what it leaves.
-- Assumes nothing.
use mathlib.Core.Path.{◌≡◌, refl, sym, ap, ap₂, subst, ◌∙◌}
use Prim.Native.Nat.{ℕ, zero, suc, ◌+◌, ◌-◌, ◌<◌, ◌≤◌}
use native.Mathlib.Nat.{le_of_eq}
use native.Mathlib.Omega.{arith}
use mathlib.Core.Bool.{Bool, true, false, not, ◌||◌}
use mathlib.Core.List.{List, [], ◌++◌, append-nil}
use lib.ListN.{length, take, drop, take-append-drop, length-append, length-take, length-drop, drop_of_length-le}
use lib.Seq.{take_at, drop_at, take_all, length-take-le, take-append-add, take-append-le, drop-append-add, drop-append-le, drop-drop}
use lib.Dec.{eqb, ltb}
use borrow.Author.Tests.{lt-ltb, le-ltb, ltb-true, ltb-false, ne_eqb, eq-eqb}
use borrow.Rule.Slice.PartMut.{put_mid}
use Rattle.std.specs.Prelude.{Some, None, cond, position}
use Rattle.std.specs.List.{position_or_len}
use Rattle.std.proofs.lemmas.List.Recursion.{is_position_or_len}
use Rattle.luck_text.specs.Bytes.{when◌then◌else◌, byte_at, part, in_front, run}
use Rattle.luck_text.specs.Walk.{stop, goes, walk_from}
use Rattle.luck_text.proofs.Walk.{walk_end, walk_stop, walk_goes}
use Rattle.luck_text.proofs.Bytes.{run_more, run_end, run_inside}
use Rattle.luck_text.proofs.Cases.{by_test}
use Rattle.luck_answer.specs.Answer.{Answer, refused}
use Rattle.luck_line.specs.Line.{longest, line_answer}
use Rattle.luck_line.specs.Row.{answer_row}
use Rattle.luck_lines.specs.Stream.{line_length, answer_after, counted, totals_of, last_row_and_totals, Taken, taken, FeedState, feed_state, unended, line_turn, feed_turn, feed, finish, fed_of}
use Rattle.luck_lines.specs.Inner.{unended_at}
use Rattle.luck_lines.specs.declared.stream.State.{State}
use Rattle.luck_lines.specs.declared.stream.Fed.{Fed}
use Rattle.luck_line.proofs.Heads.{part_whole}
use Rattle.luck_line.proofs.Rows.{row_length, totals_length}

pub line_inside : (input : List ℕ) (p : ℕ) → p ≤ length input → p + line_length (drop p input) ≤ length input
unfolding line_length
line_inside input p h = run_inside (λ b. not (eqb b 10)) input p h

-- a byte that is no newline, and the end
module _ (input : List ℕ) (p : ℕ) where
  line_more : p < length input → (byte_at input p ≡ 10 → ⊥) → line_length (drop p input) ≡ suc (line_length (drop (p + 1) input))
  unfolding line_length
  line_more h e = run_more (λ b. not (eqb b 10)) input p h (ap not (ne_eqb (byte_at input p) 10 e))

  pub input_ends : length input ≤ p → line_length (drop p input) ≡ 0
  unfolding line_length
  input_ends h = run_end (λ b. not (eqb b 10)) input p h

-- bytes with no newline
line_block : (input : List ℕ) (n p : ℕ) → p + n ≤ length input → ((k : ℕ) → k < n → byte_at input (p + k) ≡ 10 → ⊥)
    → line_length (drop p input) ≡ n + line_length (drop (p + n) input)
line_block input zero p h f = let e : p ≡ p + 0 = omega arith in ap (λ (q : ℕ). line_length (drop q input)) e ∙ omega arith
line_block input (suc n) p h f =
    let e : p + 1 + n ≡ p + suc n = omega arith in
    let here : byte_at input p ≡ 10 → ⊥ = λ g. let z : p + 0 ≡ p = omega arith in f 0 (omega arith) (ap (byte_at input) z ∙ g) in
    let more = line_block input n (p + 1) (omega arith) (λ k l g. let z : p + suc k ≡ p + 1 + k = omega arith in f (suc k) (omega arith) (ap (byte_at input) z ∙ g)) in
    let all : line_length (drop p input) ≡ suc n + line_length (drop (p + 1 + n) input) = omega (arith, line_more input p (omega arith) here, more) in
    all ∙ ap (λ (q : ℕ). suc n + line_length (drop q input)) e

-- the bytes that `blocks_end` passes over
pub blocks_passed : (input : List ℕ) (p end : ℕ) → p ≤ end → end ≤ length input → ((k : ℕ) → p ≤ k → k < end → byte_at input k ≡ 10 → ⊥)
    → p + line_length (drop p input) ≡ end + line_length (drop end input)
blocks_passed input p end l h f =
    let e : p + (end - p) ≡ end = omega arith in
    let passed = line_block input (end - p) p (omega arith) (λ k m. f (p + k) (omega arith) (omega arith)) in
    omega (arith, passed ∙ ap (λ (q : ℕ). end - p + line_length (drop q input)) e)

-- the place of the first newline, or none
newline_step : (t : Bool) (n : ℕ) → (when not t then suc n else 0) ≡ cond t 0 (1 + n)
unfolding when◌then◌else◌
newline_step true n = refl
newline_step false n = omega arith

before_newline : (text : List ℕ) → line_length text ≡ position_or_len (λ b. eqb b 10) text
unfolding line_length run
before_newline text = is_position_or_len line_length (λ b. eqb b 10) refl (λ b more. newline_step (eqb b 10) (line_length more)) text

some_place : (t : Bool) (n p : ℕ) → Some n ≡ cond t (Some p) None → (t ≡ true) × (n ≡ p)
some_place true n p e = (refl, cc)
some_place false n p e = absurd (cc)

no_place : (t : Bool) (p : ℕ) → None ≡ cond t (Some p) None → t ≡ false
no_place true p e = absurd (cc)
no_place false p e = refl

pub newline_at : (text : List ℕ) (n : ℕ) → Some n ≡ position (λ b. eqb b 10) text → (line_length text ≡ n) × (n < length text)
newline_at text n e =
    let s = some_place _ _ _ e in
    let inside = ltb-true (position_or_len (λ b. eqb b 10) text) (length text) s.0 in
    (before_newline text ∙ sym s.1, omega (arith, s.1, inside))

pub newline_nowhere : (text : List ℕ) → None ≡ position (λ b. eqb b 10) text → line_length text ≡ length text
newline_nowhere text e =
    let past = ltb-false (position_or_len (λ b. eqb b 10) text) (length text) (no_place _ _ e) in
    let inside = line_inside text 0 (omega arith) in
    omega (arith, before_newline text, past, inside)

pub answer_length : (a : Answer) → length (answer_row a) ≡ 19
answer_length a = row_length a.number a.offset a.count

pub of_long : (long : Bool) (line : List ℕ) → long ≡ true → refused 31 0 ≡ answer_after long line
unfolding answer_after
of_long long line e = rw e

pub of_short : (long : Bool) (line : List ℕ) → long ≡ false → line_answer line ≡ answer_after long line
unfolding answer_after
of_short long line e = rw e

fed_if : (b : Bool) (x y : Taken) → (when b then fed_of x else fed_of y) ≡ fed_of (when b then x else y)
unfolding when◌then◌else◌
fed_if true x y = refl
fed_if false x y = refl

-- ---- The turns

module _ (input : List ℕ) (room : ℕ) where
  -- what the whole call gives, from place p on
  abbrev pub on : ℕ → FeedState → Taken
  on p s = walk_from (feed_turn input room) (unended input) (length input) p s

  pub starts : (s : State) → on 0 (feed_state [] s) ≡ feed input room s
  unfolding feed
  starts s = refl

  pub at_end : (p : ℕ) (s : FeedState) → length input ≤ p → on p s ≡ unended input p s
  at_end p s h = walk_end (feed_turn input room) (unended input) (length input) p s h

  turn_none : (p : ℕ) (s : FeedState) → p + line_length (drop p input) ≡ length input → feed_turn input room p s ≡ stop (unended input p s)
  unfolding feed_turn when◌then◌else◌
  turn_none p s e = rw (eq-eqb (p + line_length (drop p input)) (length input) e)

  pub no_newline : (p : ℕ) (s : FeedState) → p < length input → p + line_length (drop p input) ≡ length input → on p s ≡ unended input p s
  no_newline p s h e = walk_stop (feed_turn input room) (unended input) (length input) p s (unended input p s) h (turn_none p s e)

  module _ (p : ℕ) (written : List ℕ) (s : State) (h : p < length input) (n : p + line_length (drop p input) ≡ length input → ⊥) where
    turn_full : room - length written < 19 → feed_turn input room p (feed_state written s) ≡ stop (taken p written s)
    unfolding feed_turn line_turn when◌then◌else◌
    turn_full r = rw (ne_eqb (p + line_length (drop p input)) (length input) n, lt-ltb (room - length written) 19 r)

    pub no_room : room - length written < 19 → on p (feed_state written s) ≡ taken p written s
    no_room r = walk_stop (feed_turn input room) (unended input) (length input) p (feed_state written s) _ h (turn_full r)

    -- the line's answer, and the state after it is taken
    abbrev pub answer : Answer
    answer = answer_after s.long (part input p (p + line_length (drop p input)))

    abbrev pub after : FeedState
    after = feed_state (written ++ answer_row answer) (counted s answer.number)

    turn_line : 19 ≤ room - length written → feed_turn input room p (feed_state written s) ≡ goes (line_length (drop p input) + 1) after
    unfolding feed_turn line_turn when◌then◌else◌
    turn_line r = rw (ne_eqb (p + line_length (drop p input)) (length input) n, le-ltb (room - length written) 19 r)

    pub line_taken : 19 ≤ room - length written → on p (feed_state written s) ≡ on (p + (line_length (drop p input) + 1)) after
    line_taken r =
        let i = line_inside input p (omega arith) in
        walk_goes (feed_turn input room) (unended input) (length input) p (feed_state written s) (line_length (drop p input) + 1) after (omega arith) (omega (arith, i, n)) (turn_line r)

  pub unended_written : (p : ℕ) (s : FeedState) → (unended input p s).written ≡ s.written
  unfolding unended
  unended_written p s = by_test (λ (t : Taken). t.written ≡ s.written) (s.state.long || ltb longest (length input - p)) _ _ (λ e. refl) (λ e. refl)

  pub unended_fed : (p w : ℕ) (s : FeedState) → w ≡ length s.written → unended_at (length input) p w s.state ≡ fed_of (unended input p s)
  unfolding unended
  unended_fed p w s e = ap (λ (x : ℕ). unended_at (length input) p x s.state) e ∙ fed_if (s.state.long || ltb longest (length input - p)) _ _

-- ---- The output

-- a row that is put into an output after w bytes
module _ (out part : List ℕ) (w x : ℕ) (h : w ≤ length out) (g : x ≤ length part) where
  pub front : take (w + x) (put_mid w (length out - w) out part) ≡ take w out ++ take x part
  front =
      ap (λ (n : ℕ). take (n + x) (take w out ++ (part ++ drop (length out - w) (drop w out)))) (sym (length-take-le w out h))
      ∙ take-append-add (take w out) (part ++ drop (length out - w) (drop w out)) x
      ∙ ap (λ (q : List ℕ). take w out ++ q) (take-append-le x part (drop (length out - w) (drop w out)) g)

  pub rest_kept : (first : List ℕ) → drop w out ≡ drop w first → drop x part ≡ drop x (take (length out - w) (drop w out))
      → drop (w + x) (put_mid w (length out - w) out part) ≡ drop (w + x) first
  rest_kept first before now =
      ap (λ (n : ℕ). drop (n + x) (take w out ++ (part ++ drop (length out - w) (drop w out)))) (sym (length-take-le w out h))
      ∙ drop-append-add (take w out) (part ++ drop (length out - w) (drop w out)) x
      ∙ drop-append-le x part (drop (length out - w) (drop w out)) g
      ∙ ap (λ (q : List ℕ). drop x part ++ q) (drop_of_length-le (drop w out) (le_of_eq (length-drop w out)))
      ∙ append-nil (drop x part)
      ∙ now
      ∙ ap (λ (q : List ℕ). drop x q) (part_whole out w ∙ before)
      ∙ drop-drop x w first

-- what was written, as bytes of the output
pub as_written : (out first written : List ℕ) (w : ℕ) → w ≤ length out → drop w out ≡ drop w first → written ≡ take w out → out ≡ in_front written first
as_written out first written w h e f =
    sym (take-append-drop w out)
    ∙ ap₂ ◌++◌ (sym f) (e ∙ ap (λ (n : ℕ). drop n first) (sym (ap length f ∙ length-take-le w out h)))

-- ---- The loop of `feed`: from place p on, w bytes of the output are written

module _ (input first out : List ℕ) (p w : ℕ) (begun s : State)
    (inside : p ≤ length input) (fits : w ≤ length out) (same : length out ≡ length first) (kept : drop w out ≡ drop w first)
    (whole : on input (length first) p (feed_state (take w out) s) ≡ feed input (length first) begun) where
  -- what is promised of an answer
  abbrev pub Answered : Fed → Type 0
  Answered r =
      (r ≡ fed_of (feed input (length first) begun))
      × ((out ≡ in_front (feed input (length first) begun).written first) × ((r.used ≤ length input) × (r.wrote ≤ length first)))

  answered : (r : Fed) (t : Taken) → t ≡ feed input (length first) begun → r ≡ fed_of t → t.written ≡ take w out → r.used ≤ length input → r.wrote ≤ length first → Answered r
  answered r t e f g u v = (f ∙ ap fed_of e, (as_written out first _ w fits kept (ap (λ (x : Taken). x.written) (sym e) ∙ g), (u, v)))

  used_inside : (unended_at (length input) p w s).used ≤ length input
  used_inside = by_test (λ (x : Fed). x.used ≤ length input) (s.long || ltb longest (length input - p)) _ _ (λ e. omega arith) (λ e. inside)

  wrote_inside : (unended_at (length input) p w s).wrote ≤ length first
  wrote_inside = by_test (λ (x : Fed). x.wrote ≤ length first) (s.long || ltb longest (length input - p)) _ _ (λ e. omega arith) (λ e. omega arith)

  pub nothing_ends : (r : Fed) → r ≡ unended_at (length input) p w s → on input (length first) p (feed_state (take w out) s) ≡ unended input p (feed_state (take w out) s) → Answered r
  nothing_ends r e f =
      answered r (unended input p (feed_state (take w out) s)) (sym f ∙ whole)
      (e ∙ unended_fed input (length first) p w (feed_state (take w out) s) (sym (length-take-le w out fits)))
      (unended_written input (length first) p (feed_state (take w out) s))
      (subst (λ (x : Fed). x.used ≤ length input) (sym e) used_inside)
      (subst (λ (x : Fed). x.wrote ≤ length first) (sym e) wrote_inside)

  pub is_full : on input (length first) p (feed_state (take w out) s) ≡ taken p (take w out) s → Answered (record { used = p; wrote = w; state = s })
  is_full f =
      answered _ (taken p (take w out) s) (sym f ∙ whole)
      (ap (λ (n : ℕ). record { used = p; wrote = n; state = s }) (sym (length-take-le w out fits)))
      refl inside (omega arith)

  module _ (end : ℕ) (e : end ≡ p + line_length (drop p input)) (h : p < length input) (n : end ≡ length input → ⊥) (r : 19 ≤ length out - w)
      (row : List ℕ) (put : row ≡ answer_row (answer_after s.long (part input p end)) ++ drop 19 (take (length out - w) (drop w out))) where
    row_19 : length (answer_row (answer_after s.long (part input p end))) ≡ 19
    row_19 = answer_length (answer_after s.long (part input p end))

    row_fits : 19 ≤ length row
    row_fits = omega (arith, ap length put, length-append (answer_row (answer_after s.long (part input p end))) (drop 19 (take (length out - w) (drop w out))), row_19)

    pub line_put : take (w + 19) (put_mid w (length out - w) out row) ≡ take w out ++ answer_row (answer_after s.long (part input p end))
    line_put =
        front out row w 19 fits row_fits
        ∙ ap (λ (x : List ℕ). take w out ++ x) (ap (take 19) put ∙ take_at (answer_row (answer_after s.long (part input p end))) _ 19 row_19)

    pub line_kept : drop (w + 19) (put_mid w (length out - w) out row) ≡ drop (w + 19) first
    line_kept = rest_kept out row w 19 fits row_fits first kept (ap (drop 19) put ∙ drop_at (answer_row (answer_after s.long (part input p end))) _ 19 row_19)

    pub line_on : (number : ℕ) (next : State) → number ≡ (answer_after s.long (part input p end)).number → next ≡ counted s number
        → on input (length first) (end + 1) (feed_state (take (w + 19) (put_mid w (length out - w) out row)) next) ≡ feed input (length first) begun
    line_on number next m c =
        let q : end + 1 ≡ p + (line_length (drop p input) + 1) = omega (arith, e) in
        ap₂ (λ (x : ℕ) (y : FeedState). on input (length first) x y) q
        (ap₂ feed_state line_put (c ∙ ap (counted s) m)
        ∙ ap (λ (x : ℕ). feed_state (take w out ++ answer_row (answer_after s.long (part input p x))) (counted s (answer_after s.long (part input p x)).number)) e)
        ∙ sym (line_taken input (length first) p (take w out) s h (λ x. n (e ∙ x)) (omega (arith, length-take-le w out fits)))
        ∙ whole

-- bytes at the front of an output
pub bytes_front : (n : ℕ) (f r out o : List ℕ) → f ≡ r → length r ≡ n → o ≡ r ++ drop n out → (n ≡ length f) × (o ≡ in_front f out)
bytes_front n f r out o e l p = (sym (ap length e ∙ l), p ∙ ap₂ (λ (x : List ℕ) (m : ℕ). x ++ drop m out) (sym e) (sym (ap length e ∙ l)))

-- bytes at the front, and others behind them
pub bytes_behind : (n m : ℕ) (r t first out part : List ℕ) → length r ≡ n → length t ≡ m → n + m ≤ length first
    → out ≡ r ++ drop n first → part ≡ t ++ drop m (take (length out - n) (drop n out)) → put_mid n (length out - n) out part ≡ in_front (r ++ t) first
bytes_behind n m r t first out part l k h e p =
    let inside : n ≤ length out = omega (arith, ap length e, length-append r (drop n first)) in
    let fits : m ≤ length part = omega (arith, ap length p, length-append t (drop m (take (length out - n) (drop n out)))) in
    let put : take (n + m) (put_mid n (length out - n) out part) ≡ r ++ t =
    front out part n m inside fits
    ∙ ap₂ ◌++◌ (ap (take n) e ∙ take_at r (drop n first) n l) (ap (take m) p ∙ take_at t (drop m (take (length out - n) (drop n out))) m k) in
    let kept : drop (n + m) (put_mid n (length out - n) out part) ≡ drop (n + m) first =
    rest_kept out part n m inside fits first (ap (drop n) e ∙ drop_at r (drop n first) n l)
    (ap (drop m) p ∙ drop_at t (drop m (take (length out - n) (drop n out))) m k) in
    let size : n + m ≤ length (put_mid n (length out - n) out part) =
    omega (arith, ap length put, length-append r t, length-take (n + m) (put_mid n (length out - n) out part)) in
    as_written (put_mid n (length out - n) out part) first (r ++ t) (n + m) size kept (sym put)

-- ---- The end of the input

pub last_length : (s : State) (line : List ℕ) → length (last_row_and_totals s line) ≡ 34
unfolding last_row_and_totals
last_length s line =
    let a = answer_after s.long line in
    omega (arith, length-append (answer_row a) (totals_of (counted s a.number)), answer_length a, totals_length (counted s a.number).read (counted s a.number).refused)

-- the row, and the totals behind it
pub last_put : (s all : State) (number : ℕ) (line first out part : List ℕ) → 34 ≤ length first → number ≡ (answer_after s.long line).number → all ≡ counted s number
    → out ≡ answer_row (answer_after s.long line) ++ drop 19 first → part ≡ totals_of all ++ drop 15 (take (length out - 19) (drop 19 out))
    → put_mid 19 (length out - 19) out part ≡ in_front (last_row_and_totals s line) first
unfolding last_row_and_totals
last_put s all number line first out part h m n e p =
    let a = answer_after s.long line in
    let behind = p ∙ ap (λ (x : State). totals_of x ++ drop 15 (take (length out - 19) (drop 19 out))) (n ∙ ap (counted s) m) in
    bytes_behind 19 15 (answer_row a) (totals_of (counted s a.number)) first out part (answer_length a) (totals_length (counted s a.number).read (counted s a.number).refused) h e behind

module _ (s : State) (left : List ℕ) (room : ℕ) where
  pub finish_full : room < 34 → finish s left room ≡ []
  unfolding finish when◌then◌else◌
  finish_full h = rw (lt-ltb room 34 h)

  module _ (h : 34 ≤ room) where
    pub finish_long : s.long ≡ true → finish s left room ≡ last_row_and_totals s left
    unfolding finish when◌then◌else◌
    finish_long e = rw (le-ltb room 34 h, e)

    pub finish_empty : s.long ≡ false → length left ≡ 0 → finish s left room ≡ totals_of s
    unfolding finish when◌then◌else◌
    finish_empty e l = rw (le-ltb room 34 h, e, eq-eqb (length left) 0 l)

    pub finish_row : s.long ≡ false → (length left ≡ 0 → ⊥) → finish s left room ≡ last_row_and_totals s left
    unfolding finish when◌then◌else◌
    finish_row e l = rw (le-ltb room 34 h, e, ne_eqb (length left) 0 l)

    -- with the row of a last line
    pub last_finished : (first out : List ℕ) (r : ℕ) → length first ≡ room → finish s left room ≡ last_row_and_totals s left → r ≡ 34 → out ≡ in_front (last_row_and_totals s left) first
        → (r ≡ length (finish s left room)) × ((out ≡ in_front (finish s left room) first) × (r ≤ length first))
    last_finished first out r l e n o =
        (n ∙ sym (ap length e ∙ last_length s left), (o ∙ ap (λ (f : List ℕ). in_front f first) (sym e), omega (arith, n, l)))
