-- The listing (document 01, the program `bodies`; document 02, F-9) made piece by piece: what one call takes of the
-- bytes that are there, and what it writes. What comes of it all is the listing of the whole input, however it was cut
-- (proofs/Promises.antt).
-- Assumes nothing.
use Rattle.std.specs.Prelude.{ℕ, ◌+◌, ◌-◌, ◌≤◌, min, ◌≡◌, Bool, true, false, not}
use Rattle.std.specs.Prelude.{◌||◌, List, [], ◌++◌, length, drop, replicate, eqb, ltb}
use Rattle.luck_text.specs.Bytes.{when◌then◌else◌, part, run}
use Rattle.luck_text.specs.Walk.{Turn, stop, goes, walk_from}
use Rattle.luck_answer.specs.Answer.{Answer, refused}
use Rattle.luck_line.specs.Line.{longest, line_answer}
use Rattle.luck_line.specs.Row.{newline, answer_row, most_shown, totals_row}
use Rattle.luck_lines.specs.Lines.{totals_columns, lines_from, answers, rows, is_refused, refused_count, is_empty}
use Rattle.luck_lines.specs.declared.stream.State.{State}
use Rattle.luck_lines.specs.declared.stream.Fed.{Fed}

-- the bytes of a row and of the line of totals, their newlines included (proofs/Rows.antt of luck_line)
abbrev pub row_length : ℕ
row_length = 19

abbrev pub totals_length : ℕ
totals_length = totals_columns + 1

-- how many bytes stand before the first newline
unfoldable pub line_length : List ℕ → ℕ
line_length text = run (λ b. not (eqb b newline)) text

-- ---- What a call hands on to the next one: whether the line that goes on is too long already, and how many lines were
-- read and refused so far

abbrev pub start : State
start = record { long = false; read = 0; refused = 0 }

-- the line that goes on is too long
abbrev pub too_long : State → State
too_long s = record { long = true; read = s.read; refused = s.refused }

-- the answer of a line; `long`: of a line of which too many bytes were taken already
unfoldable pub answer_after : Bool → List ℕ → Answer
answer_after true line = refused 31 0
answer_after false line = line_answer line

-- after a line whose answer has this number; no total grows beyond what is shown
unfoldable pub counted : State → ℕ → State
counted s number = record {
  long = false;
  read = min (s.read + 1) most_shown;
  refused = when is_refused number then min (s.refused + 1) most_shown else s.refused;
}

abbrev pub totals_of : State → List ℕ
totals_of s = totals_row s.read s.refused

-- ---- A call

-- how many bytes were taken, the rows written, and what is handed on
pub record Taken : Type 0 where
  pub used : ℕ
  pub written : List ℕ
  pub state : State

abbrev pub taken : ℕ → List ℕ → State → Taken
taken used written s = record { used = used; written = written; state = s }

-- the rows written so far in a call, and what it would hand on
pub record FeedState : Type 0 where
  pub written : List ℕ
  pub state : State

abbrev pub feed_state : List ℕ → State → FeedState
feed_state written s = record { written = written; state = s }

-- no newline is left after place p: what there is stays for the next call, unless the line is too long already
unfoldable pub unended : List ℕ → ℕ → FeedState → Taken
unended input p s =
    when s.state.long || ltb longest (length input - p) then taken (length input) s.written (too_long s.state)
    else taken p s.written s.state

module _ (input : List ℕ) (room : ℕ) where
  -- a line of n bytes, which ends in the input: it is taken if there is room for its row
  unfoldable pub line_turn : ℕ → FeedState → ℕ → Turn FeedState Taken
  line_turn p s n =
      let a = answer_after s.state.long (part input p (p + n)) in
      when ltb (room - length s.written) row_length then stop (taken p s.written s.state)
      else goes (n + 1) (feed_state (s.written ++ answer_row a) (counted s.state a.number))

  unfoldable pub feed_turn : ℕ → FeedState → Turn FeedState Taken
  feed_turn p s =
      let n = line_length (drop p input) in
      when eqb (p + n) (length input) then stop (unended input p s) else line_turn p s n

  -- whole lines from the front, while there is room
  unfoldable pub feed : State → Taken
  feed s = walk_from feed_turn (unended input) (length input) 0 (feed_state [] s)

-- the row of a last line, and the totals
unfoldable pub last_row_and_totals : State → List ℕ → List ℕ
last_row_and_totals s line = let a = answer_after s.long line in answer_row a ++ totals_of (counted s a.number)

-- the end of the input: what is left, with no newline in it, is a last line that lacks its newline, if there is
-- anything; nothing is written if there is no room for a row and the totals
unfoldable pub finish : State → List ℕ → ℕ → List ℕ
finish s left room =
    when ltb room (row_length + totals_length) then []
    else when s.long || not (eqb (length left) 0) then last_row_and_totals s left else totals_of s

-- the code's answer
abbrev pub fed_of : Taken → Fed
fed_of t = record { used = t.used; wrote = length t.written; state = t.state }

-- ---- A run

-- what was taken of a line and is not kept: nothing, or too many bytes; which ones makes no difference, so that zeros
-- stand for them
unfoldable pub passed : Bool → List ℕ
passed false = []
passed true = replicate (longest + 1) 0

-- what is due for an input that goes on after such bytes and such lines
unfoldable pub listing_after : State → List ℕ → List ℕ
listing_after s input =
    let all = answers (lines_from (passed s.long) input) in
    rows all ++ totals_row (s.read + length all) (s.refused + refused_count all)

-- a run of a program. `Run whole s held input written`: with `held` read and not taken, `input` still to come, and s
-- handed on, the rest of the run writes `written`. Whole: up to its end. Else a read or a write fails, and it stops.
-- Bytes come in pieces; whole lines are taken at any time, with any room; at the end of the input, when no newline is
-- held, the last line is taken and the totals are written, with room for both, or this write fails before its last byte
pub data Run : Bool → State → List ℕ → List ℕ → List ℕ → Type 0 where
  reads : (whole : Bool) (s : State) (held piece input written : List ℕ)
      → Run whole s (held ++ piece) input written → Run whole s held (piece ++ input) written
  takes : (whole : Bool) (s : State) (held input written : List ℕ) (room : ℕ)
      → Run whole (feed held room s).state (drop (feed held room s).used held) input written
      → Run whole s held input ((feed held room s).written ++ written)
  ends : (s : State) (held : List ℕ) (room : ℕ)
      → line_length held ≡ length held → row_length + totals_length ≤ room → Run true s held [] (finish s held room)
  stops : (s : State) (held input : List ℕ) → Run false s held input []
  fails : (s : State) (held : List ℕ) (room : ℕ) (written rest : List ℕ)
      → line_length held ≡ length held → row_length + totals_length ≤ room
      → written ++ rest ≡ finish s held room → is_empty rest ≡ false → Run false s held [] written
