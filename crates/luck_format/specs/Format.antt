-- How a format of string.format is read (scanformat of 5.1 to 5.3 and Luau, getformat and checkformat of 5.4 and 5.5,
-- in lstrlib.c), and which are accepted (validate_format of luck): document 01, "Checks that the trial does not need".
-- Assumes nothing.
use Rattle.std.specs.Prelude.{ℕ, ◌+◌, ◌-◌, min, Bool, true, false, not}
use Rattle.std.specs.Prelude.{◌&&◌, ◌||◌, List, length, drop, eqb, leb, ltb}
use Prim.Native.Char.{code}
use Rattle.luck_text.specs.Bytes.{when◌then◌else◌, byte_at, ascii, among, is_digit, run}
use Rattle.luck_utf8.specs.Utf8.{char_at}
use Rattle.luck_token.specs.Version.{rules_of}
use Rattle.luck_text.specs.Walk.{Turn, stop, goes, walk_from}
use Rattle.luck_token.specs.declared.version.Rules.{Rules}
use Rattle.luck_answer.specs.Answer.{Answer, accepted, refused, refused_with, refused_both, check_text}

-- the row "`%p`, checked modifiers" of document 01: getformat and checkformat read a specifier, and `%p` is a
-- conversion
abbrev pub checks_modifiers : Rules → Bool
checks_modifiers rules = rules.checked_format_modifiers

abbrev pub has_pointer : Rules → Bool
has_pointer rules = rules.checked_format_modifiers

-- ---- Between the `%` and the conversion

unfoldable pub is_flag : ℕ → Bool
is_flag b = among b (ascii "-+ #0")

unfoldable pub is_modifier : ℕ → Bool
is_modifier b = among b (ascii "-+ #0123456789.")

-- the place after the modifiers, or a fault in them
pub data Modifiers : Type 0 where
  end_at : ℕ → Modifiers
  fault : Answer → Modifiers

-- getformat: at most 20 bytes, whatever they are
unfoldable pub get_format : List ℕ → ℕ → Modifiers
get_format text p =
    let count = run is_modifier (drop p text) in
    when leb 21 count then fault (refused 7 p) else end_at (p + count)

-- a precision of at most two digits, its dot at p
unfoldable pub scan_precision : List ℕ → ℕ → Modifiers
scan_precision text p =
    let count = run is_digit (drop (p + 1) text) in
    when ltb 2 count then fault (refused 5 (p + 1)) else end_at (p + 1 + count)

-- a width of at most two digits at p, and a precision
unfoldable pub scan_width : List ℕ → ℕ → Modifiers
scan_width text p =
    let count = run is_digit (drop p text) in
    let precision = scan_precision text (p + count) in
    when ltb 2 count then fault (refused 4 p) else when eqb (byte_at text (p + count)) (code ".") then precision
    else end_at (p + count)

-- scanformat: at most five flags, a width and a precision
unfoldable pub scan_format : List ℕ → ℕ → Modifiers
scan_format text p =
    let count = run is_flag (drop p text) in
    let width = scan_width text (p + count) in
    when leb 6 count then fault (refused_with 3 (p + 5) (byte_at text (p + 5))) else width

unfoldable pub modifiers_at : Bool → List ℕ → ℕ → Modifiers
modifiers_at true text p = get_format text p
modifiers_at false text p = scan_format text p

-- ---- The conversion

unfoldable pub is_conversion : Rules → ℕ → Bool
is_conversion rules b =
    among b (ascii "cdiouxXeEfgGqs") || (among b (ascii "aA") && rules.hex_float_format)
    || (eqb b (code "p") && has_pointer rules)

-- what str_format hands checkformat for a conversion: the flags that it takes, and whether a precision
unfoldable pub flags_for : ℕ → List ℕ
flags_for b =
    when among b (ascii "di") then ascii "-+0 "
    else when eqb b (code "u") then ascii "-0"
    else when among b (ascii "oxX") then ascii "-#0"
    else when among b (ascii "aAeEfgG") then ascii "-+#0 " else ascii "-"

-- how many of them stand at p
unfoldable pub flags_run : ℕ → List ℕ → ℕ → ℕ
flags_run conversion text p = run (λ b. among b (flags_for conversion)) (drop p text)

unfoldable pub takes_precision : ℕ → Bool
takes_precision b = not (among b (ascii "cp"))

unfoldable pub after_two_digits : List ℕ → ℕ → ℕ
after_two_digits text p = p + min 2 (run is_digit (drop p text))

-- the place after the modifiers at p that checkformat accepts before this conversion; a width does not start with 0,
-- and `%q` takes none
unfoldable pub good_modifiers : ℕ → List ℕ → ℕ → ℕ
good_modifiers conversion text p =
    let flags = p + flags_run conversion text p in
    let width = after_two_digits text flags in
    let precision = after_two_digits text (width + 1) in
    when eqb conversion (code "q") then p
    else when eqb (byte_at text flags) (code "0") then flags
    else when takes_precision conversion && eqb (byte_at text width) (code ".") then precision else width

-- ---- The walk, with the number of specifiers so far

-- the specifier whose `%` stands at p and whose conversion at e
unfoldable pub conversion_turn : Rules → List ℕ → ℕ → ℕ → ℕ → Turn ℕ Answer
conversion_turn rules text p count e =
    let conversion = byte_at text e in
    let good = good_modifiers conversion text (p + 1) in
    when leb (length text) e then stop (refused 1 p)
    else when not (is_conversion rules conversion) then stop (refused_with 2 e (char_at text e).code)
    else when checks_modifiers rules && ltb good e then stop (refused_both 6 good (byte_at text good) conversion)
    else goes (e + 1 - p) (count + 1)

unfoldable pub specifier_turn : Rules → List ℕ → ℕ → ℕ → Modifiers → Turn ℕ Answer
specifier_turn rules text p count (end_at e) = conversion_turn rules text p count e
specifier_turn rules text p count (fault answer) = stop answer

unfoldable pub percent_turn : Rules → List ℕ → ℕ → ℕ → Turn ℕ Answer
percent_turn rules text p count =
    let next = byte_at text (p + 1) in
    let specifier = specifier_turn rules text p count (modifiers_at (checks_modifiers rules) text (p + 1)) in
    when leb (length text) (p + 1) then stop (refused 1 p)
    else when eqb next (code "%") then goes 2 count
    else when eqb next (code "*") && rules.star_format then goes 2 (count + 1) else specifier

unfoldable pub format_turn : Rules → List ℕ → ℕ → ℕ → Turn ℕ Answer
format_turn rules text p count = when eqb (byte_at text p) (code "%") then percent_turn rules text p count else goes 1 count

unfoldable pub format_end : ℕ → ℕ → Answer
format_end p count = accepted count

unfoldable pub format_walk : Rules → List ℕ → Answer
format_walk rules text = walk_from (format_turn rules text) format_end (length text) 0 0

unfoldable pub check_format : ℕ → List ℕ → Answer
check_format version text = check_text version text (format_walk (rules_of version) text)
