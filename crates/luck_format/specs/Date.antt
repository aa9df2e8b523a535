-- Which formats of os.date are accepted (validate_os_date of luck, after checkoption of loslib.c): document 01, "Checks
-- that the trial does not need", and point 6 of document 03.
-- Assumes nothing.
use Rattle.std.specs.Prelude.{ℕ, ◌+◌, Bool, not, ◌&&◌, ◌||◌, List, [], length, eqb, leb}
use Prim.Native.Char.{code}
use Rattle.luck_text.specs.Bytes.{when◌then◌else◌, byte_at, ascii, among}
use Rattle.luck_token.specs.Version.{rules_of}
use Rattle.luck_token.specs.declared.version.Rules.{Rules}
use Rattle.luck_text.specs.Walk.{Turn, stop, goes, walk_from}
use Rattle.luck_answer.specs.Answer.{Answer, accepted, refused, check_text}

-- the rows "strict replacement, checked date" and "date options" of document 01
abbrev pub checks_dates : Rules → Bool
checks_dates rules = rules.strict_gsub_replacement

abbrev pub has_date_options : Rules → Bool
has_date_options rules = rules.date_format_options

-- luck's lists, each the union over the platforms: the conversions that every checked version has, and those of the
-- versions with options
abbrev pub everywhere : List ℕ
everywhere = ascii "aAbBcdHIjmMpSUwWxXyYzZ%"

abbrev pub with_options : List ℕ
with_options = ascii "CDeFgGhnrRtTuV"

-- the bytes of which one must follow this one
unfoldable pub second_bytes : ℕ → List ℕ
second_bytes b =
    when eqb b (code "E") then ascii "cCxXyY"
    else when eqb b (code "O") then ascii "deHImMSuUVwWy"
    else when eqb b (code "#") then ascii "cxdHIjmMpSUwWyY" else []

unfoldable pub is_pair : ℕ → Bool
is_pair b = among b (ascii "EO#")

-- how many bytes a conversion of one letter has with its `%`, 0 where there is none such
unfoldable pub single_width : Bool → ℕ → ℕ
single_width options b = when among b everywhere || (options && among b with_options) then 2 else 0

-- one of two letters, the second at place p
unfoldable pub pair_width : List ℕ → ℕ → ℕ → ℕ
pair_width text p b = when among (byte_at text p) (second_bytes b) then 3 else 0

-- the conversion whose `%` stands at p
unfoldable pub conversion_width : Bool → List ℕ → ℕ → ℕ
conversion_width options text p =
    let b = byte_at text (p + 1) in
    when options && is_pair b then pair_width text (p + 2) b else single_width options b

unfoldable pub date_turn : Bool → List ℕ → ℕ → Unit {0} → Turn (Unit {0}) Answer
date_turn options text p u =
    let width = conversion_width options text p in
    when not (eqb (byte_at text p) (code "%")) then goes 1 tt
    else when leb (length text) (p + 1) then (when options then stop (refused 19 p) else goes 1 tt)
    else when eqb width 0 then stop (refused 22 (p + 1)) else goes width tt

unfoldable pub date_end : ℕ → Unit {0} → Answer
date_end p u = accepted 0

-- `*t` or `!*t`: a table
unfoldable pub is_star_t : List ℕ → ℕ → Bool
is_star_t text p = eqb (length text) (p + 2) && eqb (byte_at text p) (code "*") && eqb (byte_at text (p + 1)) (code "t")

unfoldable pub is_table : List ℕ → Bool
is_table text = when eqb (byte_at text 0) (code "!") then is_star_t text 1 else is_star_t text 0

unfoldable pub conversions_walk : Bool → List ℕ → Answer
conversions_walk options text = walk_from (date_turn options text) date_end (length text) 0 tt

-- 5.1 passes the whole text to strftime
unfoldable pub date_walk : Bool → Bool → List ℕ → Answer
date_walk checked options text =
    let walk = conversions_walk options text in
    when not checked || is_table text then accepted 0 else walk

unfoldable pub check_date : ℕ → List ℕ → Answer
check_date version text =
    check_text version text (date_walk (checks_dates (rules_of version)) (has_date_options (rules_of version)) text)
