-- The listing of an input: a row for each line (document 01, the program `bodies`), and after the last one the totals
-- (document 02, F-9).
-- Assumes nothing.
use Rattle.std.specs.Prelude.{ℕ, ◌+◌, Bool, true, false, not, ◌&&◌}
use Rattle.std.specs.Prelude.{◌||◌, List, [], ◌∷◌, ◌++◌, length, eqb}
use Rattle.luck_text.specs.Bytes.{when◌then◌else◌}
use Rattle.luck_answer.specs.Answer.{Answer}
use Rattle.luck_line.specs.Line.{line_answer}
use Rattle.luck_line.specs.Row.{newline, answer_row, totals_row}

-- what is left of an input when it ends: a last line that lacks its newline, or nothing
unfoldable pub last_line : List ℕ → List (List ℕ)
last_line [] = []
last_line (b ∷ line) = (b ∷ line) ∷ []

-- the lines of `line` and then `input`, where `line` has no newline; a line ends at a newline, which is not counted
unfoldable pub lines_from : List ℕ → List ℕ → List (List ℕ)
lines_from line [] = last_line line
lines_from line (b ∷ input) =
    let next = line ∷ lines_from [] input in
    let on = lines_from (line ++ (b ∷ [])) input in
    when eqb b newline then next else on

unfoldable pub lines : List ℕ → List (List ℕ)
lines input = lines_from [] input

unfoldable pub answers : List (List ℕ) → List Answer
answers [] = []
answers (line ∷ more) = line_answer line ∷ answers more

unfoldable pub rows : List Answer → List ℕ
rows [] = []
rows (a ∷ more) = answer_row a ++ rows more

-- a line is refused where its number is not 0: 25, 30 and 31 too (document 03)
abbrev pub is_refused : ℕ → Bool
is_refused number = not (eqb number 0)

-- how many of these lines are refused
unfoldable pub refused_count : List Answer → ℕ
refused_count [] = 0
refused_count (a ∷ more) = (when is_refused a.number then 1 else 0) + refused_count more

-- what the program writes
unfoldable pub listing : List ℕ → List ℕ
listing input = let all = answers (lines input) in rows all ++ totals_row (length all) (refused_count all)

-- ---- A listing that is cut off is told from a whole one by its last line (document 02, F-9)

abbrev pub totals_columns : ℕ
totals_columns = 14

unfoldable pub is_empty : List ℕ → Bool
is_empty [] = true
is_empty (b ∷ text) = false

-- a text ends in a line of 14 columns, with its newline; `columns` are there of its first line already
unfoldable pub ends_in_14_columns : ℕ → List ℕ → Bool
ends_in_14_columns columns [] = false
ends_in_14_columns columns (b ∷ text) =
    let next = (is_empty text && eqb columns totals_columns) || ends_in_14_columns 0 text in
    let on = ends_in_14_columns (columns + 1) text in
    when eqb b newline then next else on

unfoldable pub is_whole : List ℕ → Bool
is_whole text = ends_in_14_columns 0 text
