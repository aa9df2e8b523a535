-- Document 01's example of the program `bodies` with the totals of document 02's F-9, the misfits of a head, and totals
-- at their limit, by computation.
-- Assumes nothing.
use Rattle.std.specs.Prelude.{ℕ, ◌≡◌, refl, Bool, true, false, ◌&&◌, List, [], ◌∷◌, ◌++◌, length, replicate}
use Prim.Native.Char.{code}
use Rattle.luck_text.specs.Bytes.{ascii, among}
use Rattle.luck_answer.specs.Answer.{refused}
use Rattle.luck_linter.specs.Computed.{computed as checks_computed}
use Rattle.luck_line.specs.Line.{line_numbers, two_digits, capture_columns, check_with, head_check, body_answer, line_answer}
use Rattle.luck_line.specs.Row.{newline, column, justified, four_columns, seven_columns, listing_row, totals_row}
use Rattle.luck_lines.specs.Lines.{last_line, lines_from, lines, answers, rows, refused_count, listing}
use Rattle.luck_lines.specs.Lines.{is_empty, ends_in_14_columns, is_whole}

-- what is computed
unfoldable pub computed : Unit {0}
unfolding
    checks_computed two_digits capture_columns check_with head_check body_answer line_answer column justified four_columns
    seven_columns listing_row totals_row last_line lines_from lines answers rows refused_count listing
    is_empty ends_in_14_columns is_whole
computed = tt

abbrev line : List ℕ → List ℕ → List ℕ
line text more = text ++ (newline ∷ more)

pub three_lines : listing (line (ascii "F1   %d%s") (line (ascii "G4 1 %2") (line (ascii "P1   [^]") [])))
    ≡ line (ascii "   0      0      2") (line (ascii "  21      1      0") (line (ascii "   9      0      0")
    (line (ascii "      3      2") [])))
unfolding computed
three_lines = refl

-- no line, and an empty one
pub none_and_empty : (listing [] ≡ line (ascii "      0      0") [])
    × (listing (line [] []) ≡ line (ascii "  30      0      0") (line (ascii "      1      1") []))
unfolding computed
none_and_empty = (refl, refl)

-- one line, with its newline and without
pub with_and_without : (listing (line (ascii "F1   %d") [])
    ≡ line (ascii "   0      0      1") (line (ascii "      1      0") []))
    × (listing (ascii "F1   %d") ≡ line (ascii "   0      0      1") (line (ascii "      1      0") []))
unfolding computed
with_and_without = (refl, refl)

-- 25, 30 and 31 are counted as refused (document 03)
pub bad_lines : listing (line (ascii "F7   x") (line (ascii "F") (line (replicate 4006 0) (line (ascii "F1   x") []))))
    ≡ line (ascii "  25      0      0") (line (ascii "  30      0      0") (line (ascii "  31      0      0")
    (line (ascii "   0      0      0") (line (ascii "      4      3") []))))
unfolding computed
bad_lines = refl

-- 9999999 stands for that many or more, in each total by itself
pub largest_totals : (totals_row 9999998 9999999 ≡ line (ascii "99999989999999") [])
    × (totals_row 10000000 9999998 ≡ line (ascii "99999999999998") [])
    × (totals_row 10000001 0 ≡ line (ascii "9999999      0") [])
    × (totals_row 1234567 89 ≡ line (ascii "1234567     89") [])
unfolding computed
largest_totals = (refl, refl, refl, refl)

-- a listing is whole; without its totals; without their newline; with 14 bytes of a row; the totals alone; nothing
pub whole_listings : (is_whole (listing (ascii "F")) ≡ true)
    × (is_whole (line (ascii "  30      0      0") []) ≡ false)
    × (is_whole (line (ascii "  30      0      0") (ascii "      1      1")) ≡ false)
    × (is_whole (ascii "  30      0   ") ≡ false)
    × (is_whole (line (ascii "      0      0") []) ≡ true) × (is_whole [] ≡ false)
unfolding computed
whole_listings = (refl, refl, refl, refl, refl, refl)

-- heads: `F7 1 x` and `00` are 30, ` 0`, `32` and the blank are accepted, `33` is 30, version 7 is 25; CR and NUL are
-- bytes of the body; the last line lacks its newline
pub heads : listing
    (line (ascii "F7 1 x") (line (ascii "G4 0 x") (line (ascii "G400 x") (line (ascii "G432 x")
    (line (ascii "G433 x") (line (ascii "G4   %9")
    (line (ascii "F1   %" ++ (code "\r" ∷ [])) (line (ascii "K3   b" ++ (0 ∷ [])) (ascii "F7   x")))))))))
    ≡ line (ascii "  30      0      0") (line (ascii "   0      0      0")
    (line (ascii "  30      0      0") (line (ascii "   0      0      0")
    (line (ascii "  30      0      0") (line (ascii "   0      0      0")
    (line (ascii "   2      1      0") (line (ascii "  14      1      0")
    (line (ascii "  25      0      0") (line (ascii "      9      6") [])))))))))
unfolding computed
heads = refl

-- 4,005 bytes, whose head does not fit, and 4,006
pub longest_line : (line_answer (replicate 4005 0) ≡ refused 30 0) × (line_answer (replicate 4006 0) ≡ refused 31 0)
unfolding computed
longest_line = (refl, refl)

-- a reversed range, with a backslash in the body and without
pub reversed_lines : (line_answer (ascii "P1   [z-a]\\n") ≡ refused 39 1)
    × (line_answer (ascii "P6   [a-z][z-a]") ≡ refused 39 6)
unfolding computed
reversed_lines = (refl, refl)

-- a line for each number that a line is answered, from 0 to 31, and 39
abbrev answered : List (List ℕ)
answered =
    ascii "F1   %d"
    ∷ ascii "F1   %"
    ∷ ascii "F1   %y"
    ∷ ascii "F1   %------d"
    ∷ ascii "F1   %123d"
    ∷ ascii "F1   %.123d"
    ∷ ascii "F4   %#d"
    ∷ ascii "F4   %000000000000000000000d"
    ∷ ascii "P1   [a"
    ∷ ascii "P1   [^]"
    ∷ ascii "P1   %f"
    ∷ ascii "P1   (a"
    ∷ ascii "P1   ((((((((((((((((((((((((((((((((("
    ∷ ascii "P1   %1"
    ∷ ascii "K3   y"
    ∷ ascii "K3   c"
    ∷ ascii "K3   i17"
    ∷ ascii "K3   !8i3"
    ∷ ascii "S3   z"
    ∷ ascii "G2   %"
    ∷ ascii "G2   %x"
    ∷ ascii "G2 0 %2"
    ∷ ascii "D2   %Q"
    ∷ (ascii "F1   " ++ (0xFF ∷ []))
    ∷ ascii "F7   x"
    ∷ ascii "F"
    ∷ replicate 4006 0
    ∷ ascii "P1   [z-a]"
    ∷ []

abbrev numbers_of : List (List ℕ) → List ℕ
numbers_of [] = []
numbers_of (text ∷ more) = (line_answer text).number ∷ numbers_of more

abbrev all_among : List ℕ → List ℕ → Bool
all_among [] numbers = true
all_among (n ∷ more) numbers = among n numbers && all_among more numbers

-- all of them but the first are counted as refused
pub all_refused : (length answered ≡ 28) × (refused_count (answers answered) ≡ 27)
unfolding computed
all_refused = (refl, refl)

-- the list of a line's numbers has no other
pub line_numbers_lem : all_among line_numbers (numbers_of answered) ≡ true
unfolding computed
line_numbers_lem = refl
