-- A row of the listing (document 01): number, offset and count in 4, 7 and 7 columns, right-justified, with no bytes
-- between, and a newline. The line of totals after the last row (document 02, F-9): lines read and lines refused in 7
-- columns each.
-- Assumes nothing.
use Rattle.std.specs.Prelude.{ℕ, ◌+◌, ◌/◌, ◌%◌, min, List, [], ◌∷◌, ◌++◌, ltb}
use Prim.Native.Char.{code}
use Rattle.luck_text.specs.Bytes.{when◌then◌else◌}
use Rattle.luck_answer.specs.Answer.{Answer}

-- LF
abbrev pub newline : ℕ
newline = code "\n"

-- the digit of n at a power of ten, or a blank where it would be a leading zero
unfoldable pub column : ℕ → ℕ → ℕ
column power n = when ltb n power then code " " else code "0" + n / power % 10

abbrev pub last_column : ℕ → ℕ
last_column n = code "0" + n % 10

-- n right-justified in one column more than there are powers; a number with more digits would lose its first ones. In a
-- row none has: its offset and its count are at most 4,000 (`row_fits` of proofs/Answers.antt). No total has: at most
-- 9,999,999 is shown
unfoldable pub justified : List ℕ → ℕ → List ℕ
justified [] n = last_column n ∷ []
justified (power ∷ powers) n = column power n ∷ justified powers n

unfoldable pub four_columns : ℕ → List ℕ
four_columns n = justified (1000 ∷ 100 ∷ 10 ∷ []) n

unfoldable pub seven_columns : ℕ → List ℕ
seven_columns n = justified (1000000 ∷ 100000 ∷ 10000 ∷ 1000 ∷ 100 ∷ 10 ∷ []) n

unfoldable pub listing_row : ℕ → ℕ → ℕ → List ℕ
listing_row number offset count = four_columns number ++ (seven_columns offset ++ (seven_columns count ++ (newline ∷ [])))

abbrev pub answer_row : Answer → List ℕ
answer_row a = listing_row a.number a.offset a.count

-- the largest total that is shown: it stands for that many or more
abbrev pub most_shown : ℕ
most_shown = 9999999

unfoldable pub totals_row : ℕ → ℕ → List ℕ
totals_row read refused =
    seven_columns (min read most_shown) ++ (seven_columns (min refused most_shown) ++ (newline ∷ []))
