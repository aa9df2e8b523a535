-- Matching: what each item of a pattern does at a place of the subject, as `match` of lstrlib.c 5.4 (document 01, "The
-- trial", calls it do_match). A step is due when an item is begun and for each test that a repeat makes after its
-- single's own.
-- In what follows s is a place of the subject, l the level, cs the captures in the order of their `(`, u the steps
-- used.
-- Assumes nothing.
use Rattle.std.specs.Prelude.{ℕ, zero, suc, ◌+◌, ◌-◌, Bool, true, false, not, ◌&&◌, Option, None, Some}
use Rattle.std.specs.Prelude.{List, [], ◌∷◌, ◌++◌, length, get_or, set, eqb, leb, ltb}
use Rattle.luck_text.specs.Bytes.{when◌then◌else◌, byte_at}
use Rattle.luck_pattern.specs.Captures.{max_captures, latest_open}
use Rattle.luck_pattern.specs.Items.{
  Set,
  Single,
  Repeat,
  once,
  optional,
  star,
  plus,
  minus,
  Item,
  start_capture,
  position_capture,
  end_capture,
  end_anchor,
  balance,
  frontier,
  back_reference,
  single,
  raises,
}
use Rattle.lstr_class.specs.Subject.{same_bytes, match_balance, byte_before}
use Rattle.lstr_item.specs.Single.{in_set, fits}

-- ---- Captures

-- still open (CAP_UNFINISHED), a position (CAP_POSITION), or closed; each with its start, a closed one with its length
pub data Capture : Type 0 where
  opened : ℕ → Capture
  position : ℕ → Capture
  closed : ℕ → ℕ → Capture

abbrev pub start_of : Capture → ℕ
start_of (opened s) = s
start_of (position s) = s
start_of (closed s n) = s

-- as the check counts them (Captures.antt of luck_pattern): an entry for each capture, true where it is not open
abbrev pub is_finished : Capture → Bool
is_finished (opened s) = false
is_finished (position s) = true
is_finished (closed s n) = true

abbrev pub flags_of : List Capture → List Bool
flags_of [] = []
flags_of (c ∷ cs) = is_finished c ∷ flags_of cs

-- capture_to_close: the latest open capture, counted from 0
unfoldable pub capture_to_close : List Capture → Option ℕ
capture_to_close cs = latest_open (flags_of cs)

-- ---- Outcomes

-- of an attempt: the match's end, its captures and the steps used; no match; or what stopped it, by number and kind (0
-- unless the number is 29).
-- The kinds of 29, by lstrlib.c's message: 1 pattern ends with '%'; 2 missing ']'; 3 missing '[' after '%f'; 4 missing
-- arguments to '%b'; 5 invalid pattern capture; 6 unfinished capture; 7 invalid capture index in the pattern; 8 too
-- many captures; 9 invalid use of '%' in the replacement; 10 invalid capture index in the replacement
pub data Outcome : Type 0 where
  matched : ℕ → List Capture → ℕ → Outcome
  failed : ℕ → Outcome
  stopped : ℕ → ℕ → ℕ → Outcome

abbrev pub raised : ℕ → ℕ → Outcome
raised kind u = stopped 29 kind u

-- the items that follow, from s, l, cs and u on
abbrev pub Rest : Type 0
Rest = ℕ → ℕ → List Capture → ℕ → Outcome

-- a step is due: 27 where none is left
unfoldable pub due : ℕ → ℕ → (ℕ → Outcome) → Outcome
due budget u k = let on = k (u + 1) in when ltb u budget then on else stopped 27 0 u

-- MAXCCALLS of lstrlib.c
abbrev pub max_levels : ℕ
max_levels = 200

-- a new level is opened: 28 where `max_levels` are open already
unfoldable pub new_level : ℕ → ℕ → (ℕ → Outcome) → Outcome
new_level l u k = let on = k (l + 1) in when ltb l max_levels then on else stopped 28 0 u

-- what is tried after a failure, with the steps used by then
unfoldable pub or_else : Outcome → (ℕ → Outcome) → Outcome
or_else (matched e cs u) k = matched e cs u
or_else (failed u) k = k u
or_else (stopped number kind u) k = stopped number kind u

-- ---- Items

-- start_capture: raises 8 where there are `max_captures` already; a failing level takes the capture back, since the
-- captures are handed on by value
unfoldable pub do_start_capture : Capture → Rest → ℕ → ℕ → List Capture → ℕ → Outcome
do_start_capture c rest s l cs u =
    let on = new_level l u (λ m. rest s m (cs ++ (c ∷ [])) u) in
    when ltb (length cs) max_captures then on else raised 8 u

-- end_capture, of the capture i, whose start is s at the latest
unfoldable pub do_end_capture : Option ℕ → Rest → ℕ → ℕ → List Capture → ℕ → Outcome
do_end_capture None rest s l cs u = raised 5 u
do_end_capture (Some i) rest s l cs u =
    let start = start_of (get_or cs i (opened 0)) in
    new_level l u (λ m. rest s m (set cs i (closed start (s - start))) u)

-- match_capture, of a capture that is there
unfoldable pub match_capture : List ℕ → Capture → Rest → ℕ → ℕ → List Capture → ℕ → Outcome
match_capture sub (opened start) rest s l cs u = raised 7 u
match_capture sub (position start) rest s l cs u = failed u
match_capture sub (closed start n) rest s l cs u =
    let on = rest (s + n) l cs u in
    when leb n (length sub - s) && same_bytes sub n start s then on else failed u

-- `%` and a digit: a capture that is not there raises 7
unfoldable pub do_back_reference : List ℕ → ℕ → Rest → ℕ → ℕ → List Capture → ℕ → Outcome
do_back_reference sub d rest s l cs u =
    let on = match_capture sub (get_or cs (d - 1) (opened 0)) rest s l cs u in
    when ltb 0 d && leb d (length cs) then on else raised 7 u

-- `%b`: the items that follow go on after the balanced part
unfoldable pub goes_on_at : Option ℕ → Rest → ℕ → List Capture → ℕ → Outcome
goes_on_at None rest l cs u = failed u
goes_on_at (Some e) rest l cs u = rest e l cs u

-- the byte before s is outside the set, and the byte at s inside
unfoldable pub is_frontier : (ℕ → ℕ → Bool) → List ℕ → Set → ℕ → Bool
is_frontier in_class sub x s = not (in_set in_class x (byte_before sub s)) && in_set in_class x (byte_at sub s)

-- a single that does not fit is passed over before `*`, `?` and `-`
unfoldable pub passed_over : Repeat → Rest → ℕ → ℕ → List Capture → ℕ → Outcome
passed_over once rest s l cs u = failed u
passed_over optional rest s l cs u = rest s l cs u
passed_over star rest s l cs u = rest s l cs u
passed_over plus rest s l cs u = failed u
passed_over minus rest s l cs u = rest s l cs u

-- how far a repeat's single fits, and the steps used; or no step was left for a test
pub data Reach : Type 0 where
  reached : ℕ → ℕ → Reach
  spent : ℕ → Reach

-- max_expand's second loop: the rest from i bytes after s, then from fewer, down to s itself, each at a new level
unfoldable pub longest_first : Rest → ℕ → ℕ → ℕ → List Capture → ℕ → Outcome
longest_first rest zero s l cs u = new_level l u (λ m. rest s m cs u)
longest_first rest (suc i) s l cs u =
    or_else (new_level l u (λ m. rest (s + suc i) m cs u)) (λ v. longest_first rest i s l cs v)

unfoldable pub max_expand : Reach → Rest → ℕ → ℕ → List Capture → Outcome
max_expand (reached e u) rest s l cs = longest_first rest (e - s) s l cs u
max_expand (spent u) rest s l cs = stopped 27 0 u

-- singlematch: none fits at the subject's end
unfoldable pub fits_at : (ℕ → ℕ → Bool) → List ℕ → Single → ℕ → Bool
fits_at in_class sub x s = ltb s (length sub) && fits in_class x (byte_at sub s)

module _ (in_class : ℕ → ℕ → Bool) (sub : List ℕ) (budget : ℕ) where
  -- max_expand's first loop, from s on: a step for each test, the failing one and one at the subject's end included. n
  -- bytes are left
  unfoldable pub reach : Single → ℕ → ℕ → ℕ → Reach
  reach x zero s u = when ltb u budget then reached s (u + 1) else spent u
  reach x (suc n) s u =
      let more = reach x n (s + 1) (u + 1) in
      let tested = when fits_at in_class sub x s then more else reached s (u + 1) in
      when ltb u budget then tested else spent u

  -- min_expand, once the rest has failed at s: one more byte is tested, with a step, and the rest tried after it. n
  -- bytes are left
  unfoldable pub min_expand : Single → Rest → ℕ → ℕ → ℕ → List Capture → ℕ → Outcome
  min_expand x rest zero s l cs u = due budget u (λ v. failed v)
  min_expand x rest (suc n) s l cs u =
      due budget u
      (λ v.
      let on = or_else (new_level l v (λ m. rest (s + 1) m cs v)) (λ w. min_expand x rest n (s + 1) l cs w) in
      when fits_at in_class sub x s then on else failed v)

  -- a single that fits at s
  unfoldable pub expand : Single → Repeat → Rest → ℕ → ℕ → List Capture → ℕ → Outcome
  expand x once rest s l cs u = rest (s + 1) l cs u
  expand x optional rest s l cs u = or_else (new_level l u (λ m. rest (s + 1) m cs u)) (λ v. rest s l cs v)
  expand x star rest s l cs u = max_expand (reach x (length sub - (s + 1)) (s + 1) u) rest s l cs
  expand x plus rest s l cs u = max_expand (reach x (length sub - (s + 1)) (s + 1) u) rest (s + 1) l cs
  expand x minus rest s l cs u =
      or_else (new_level l u (λ m. rest s m cs u))
      (λ v.
      or_else (new_level l v (λ m. rest (s + 1) m cs v))
      (λ w. min_expand x rest (length sub - (s + 1)) (s + 1) l cs w))

  -- what an item does, once its step is paid
  unfoldable pub do_item : Item → Rest → ℕ → ℕ → List Capture → ℕ → Outcome
  do_item start_capture rest s l cs u = do_start_capture (opened s) rest s l cs u
  do_item position_capture rest s l cs u = do_start_capture (position s) rest s l cs u
  do_item end_capture rest s l cs u = do_end_capture (capture_to_close cs) rest s l cs u
  do_item end_anchor rest s l cs u = when eqb s (length sub) then matched s cs u else failed u
  do_item (balance x y) rest s l cs u = goes_on_at (match_balance sub x y s) rest l cs u
  do_item (frontier x) rest s l cs u = let on = rest s l cs u in when is_frontier in_class sub x s then on else failed u
  do_item (back_reference d) rest s l cs u = do_back_reference sub d rest s l cs u
  do_item (single x r) rest s l cs u =
      let fitting = expand x r rest s l cs u in
      let other = passed_over r rest s l cs u in
      when fits_at in_class sub x s then fitting else other
  do_item (raises kind) rest s l cs u = raised kind u

  -- the items from s on; each begins with a step, and so does the pattern's end
  unfoldable pub match : List Item → Rest
  match [] s l cs u = due budget u (λ v. matched s cs v)
  match (i ∷ is) s l cs u = due budget u (λ v. do_item i (match is) s l cs v)
