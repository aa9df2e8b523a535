-- The checks of a body, as one data type, after documents 01 and 02: the kind letter that names each, its walk, its
-- answer, and the numbers of the table of refusals that it can answer.
-- Assumes nothing.
use Rattle.std.specs.Prelude.{ℕ, Bool, true, false, List, [], ◌∷◌, eqb, Option, None, Some}
use Prim.Native.Char.{code}
use Rattle.luck_text.specs.Bytes.{when◌then◌else◌}
use Rattle.luck_token.specs.declared.version.Rules.{Rules}
use Rattle.luck_answer.specs.Answer.{Answer}
use Rattle.luck_pattern.specs.Pattern.{pattern_walk, check_pattern_as}
use Rattle.luck_replacement.specs.Replacement.{is_strict, pieces, allows_digit, pieces_walk, check_replacement}
use Rattle.luck_format.specs.Format.{format_walk, check_format}
use Rattle.luck_format.specs.Date.{checks_dates, has_date_options, date_walk, check_date}
use Rattle.luck_pack.specs.Pack.{pack_walk, check_pack}
use Rattle.luck_linter.specs.declared.checks.Check.{Check as CheckEnum}
use Rattle.luck_linter.specs.declared.checks.Check.TheVariants as variant

-- a check, with what it takes besides the version and the text
pub data Check : Type 0 where
  format date : Check
  pattern : Bool → Check  -- whether its ranges are tested
  replacement : Option ℕ → Check  -- the count of captures
  pack : Bool → Check  -- whether it is for packsize

-- the check that a kind letter names, a replacement's with this count of captures; none for another byte
unfoldable pub check_of : ℕ → Option ℕ → Option Check
check_of kind captures =
    when eqb kind (code "F") then Some format
    else when eqb kind (code "P") then Some (pattern true)
    else when eqb kind (code "K") then Some (pack false)
    else when eqb kind (code "S") then Some (pack true)
    else when eqb kind (code "G") then Some (replacement captures)
    else when eqb kind (code "D") then Some date else None

-- a pattern's check without its test of ranges; every other check as it is
unfoldable pub without_ranges : Check → Check
without_ranges format = format
without_ranges date = date
without_ranges (pattern ranges) = pattern false
without_ranges (replacement captures) = replacement captures
without_ranges (pack packsize) = pack packsize

-- what is checked of a body that is UTF-8
unfoldable pub walk_of : Check → Rules → List ℕ → Answer
walk_of format rules body = format_walk rules body
walk_of (pattern ranges) rules body = pattern_walk ranges body
walk_of date rules body = date_walk (checks_dates rules) (has_date_options rules) body
walk_of (replacement captures) rules body = pieces_walk (is_strict rules) captures (pieces body) 0
walk_of (pack packsize) rules body = pack_walk packsize body

-- the whole check: 25, 23, then that walk (`whole_check` of proofs/Checked.antt)
abbrev pub answer : Check → ℕ → List ℕ → Answer
answer format version text = check_format version text
answer (pattern ranges) version text = check_pattern_as ranges version text
answer date version text = check_date version text
answer (replacement captures) version text = check_replacement version captures text
answer (pack packsize) version text = check_pack version packsize text

-- 0 where the text is accepted, else a refusal of document 01 or 02; 21 where a digit can be too large (the largest
-- is 9)
abbrev pub numbers : Check → List ℕ
numbers format = 0 ∷ 1 ∷ 2 ∷ 3 ∷ 4 ∷ 5 ∷ 6 ∷ 7 ∷ 23 ∷ 25 ∷ []
numbers (pattern false) = 0 ∷ 1 ∷ 8 ∷ 9 ∷ 10 ∷ 11 ∷ 12 ∷ 13 ∷ 23 ∷ 25 ∷ []
numbers (pattern true) = 0 ∷ 1 ∷ 8 ∷ 9 ∷ 10 ∷ 11 ∷ 12 ∷ 13 ∷ 23 ∷ 25 ∷ 39 ∷ []
numbers date = 0 ∷ 19 ∷ 22 ∷ 23 ∷ 25 ∷ []
numbers (replacement captures) =
    0 ∷ 19 ∷ 20 ∷ 23 ∷ 25 ∷ (when allows_digit captures 9 then [] else 21 ∷ [])
numbers (pack false) = 0 ∷ 14 ∷ 15 ∷ 16 ∷ 17 ∷ 23 ∷ 25 ∷ []
numbers (pack true) = 0 ∷ 14 ∷ 15 ∷ 16 ∷ 17 ∷ 18 ∷ 23 ∷ 25 ∷ []

-- those of what a byte names: 30 where it names no check
abbrev pub named_numbers : Option Check → List ℕ
named_numbers None = 30 ∷ []
named_numbers (Some check) = numbers check

-- the code's checks
abbrev pub check_meant : CheckEnum → Check
check_meant variant.Format = format
check_meant (variant.Pattern ranges) = pattern ranges
check_meant variant.Date = date
check_meant (variant.Replacement captures) = replacement captures
check_meant variant.Pack = pack false
check_meant variant.Packsize = pack true

abbrev pub check_named : Option CheckEnum → Option Check
check_named (Some check) = Some (check_meant check)
check_named None = None
