-- What a line of the program `bodies` asks for, and what is answered (document 01): kind, version digit, two columns of
-- captures, a space, the body.
-- Assumes nothing.
use Rattle.std.specs.Prelude.{ℕ, ◌+◌, ◌*◌, ◌-◌, Bool, true, ◌&&◌, List, Option, None, Some}
use Rattle.std.specs.Prelude.{◌∷◌, ◌++◌, length, drop, eqb, leb, ltb}
use Prim.Native.Char.{code}
use Rattle.luck_text.specs.Bytes.{when◌then◌else◌, byte_at, is_digit}
use Rattle.luck_answer.specs.Answer.{Answer, refused}
use Rattle.luck_pattern.specs.Captures.{max_captures}
use Rattle.luck_linter.specs.Checks.{Check, format, pattern, pack, date, replacement, check_of, answer, numbers}

-- the longest line that is checked, its newline not counted; a longer one is 31
abbrev pub longest : ℕ
longest = 4005

abbrev pub is_blank : ℕ → Bool
is_blank b = eqb b (code " ")

-- the value of a byte that is a digit
abbrev pub decimal_digit : ℕ → ℕ
decimal_digit b = b - code "0"

-- a count of two digits, up to the most captures that a pattern may have; a leading zero does not fit
unfoldable pub two_digits : ℕ → ℕ → Option (Option ℕ)
two_digits tens units =
    let count = decimal_digit tens * 10 + decimal_digit units in
    when is_digit tens && is_digit units && leb 10 count && leb count max_captures then Some (Some count) else None

-- the captures of a replacement in their two columns, right-justified, blank where their count is not known; `none`
-- where they do not fit
unfoldable pub capture_columns : ℕ → ℕ → Option (Option ℕ)
capture_columns tens units =
    when is_blank tens && is_blank units then Some None
    else when is_blank tens && is_digit units then Some (Some (decimal_digit units))
    else two_digits tens units

-- by the kind and the columns, which are blank but for G
unfoldable pub check_with : ℕ → Option (Option ℕ) → Option Check
check_with kind None = None
check_with kind (Some None) = check_of kind None
check_with kind (Some (Some count)) = when eqb kind (code "G") then check_of kind (Some count) else None

-- by the head; a line of fewer than five bytes has no space at its fifth place, which reads as 0
unfoldable pub head_check : List ℕ → Option Check
head_check line =
    let check = check_with (byte_at line 0) (capture_columns (byte_at line 2) (byte_at line 3)) in
    when is_digit (byte_at line 1) && is_blank (byte_at line 4) then check else None

-- 30 where the head does not fit; else the check of the body, which gives 25 for a digit that is no version
unfoldable pub body_answer : Option Check → ℕ → List ℕ → Answer
body_answer None version body = refused 30 0
body_answer (Some check) version body = answer check version body

-- 31, 30, 25, then the body
unfoldable pub line_answer : List ℕ → Answer
line_answer line =
    let body = body_answer (head_check line) (decimal_digit (byte_at line 1)) (drop 5 line) in
    when ltb longest (length line) then refused 31 0 else body

-- the numbers of these answers: 31, 30, and those of the checks; packsize has all of a pack format's, and a replacement
-- without captures all of the others'
abbrev pub line_numbers : List ℕ
line_numbers =
    31 ∷ 30
    ∷ (numbers format ++ numbers (pattern true) ++ numbers (pack true) ++ numbers (replacement (Some 0))
    ++ numbers date)
