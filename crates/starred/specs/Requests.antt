-- Cases of document 02's requests, and of document 03 on them, whole answers by computation.
-- Assumes nothing.
use Rattle.std.specs.Prelude.{ℕ, ◌≡◌, refl, List, [], ◌∷◌, ◌++◌, length, drop, None, Some}
use Prim.Native.Char.{code}
use Rattle.luck_text.specs.Bytes.{ascii}
use Rattle.luck_linter.specs.Computed.{computed}
use Rattle.lstr_gsub.specs.Computed.{computed as trial_computed}
use Rattle.starred.specs.Cases.{format, pattern, pack, packsize, date, replacement, literal, decode, trial}
use Rattle.starred.specs.Cases.{Told, checked, spanned, unspanned, skipped, decoded_value, not_decoded, tried}
use Rattle.starred.specs.Cases.{Asked, Case, case, only, after51, every, each, told, wanted}

-- ---- F-4: code points up to 7FFFFFFF in 5.4 and 5.5

abbrev lua54and55 : List ℕ
lua54and55 = 4 ∷ 5 ∷ []

abbrev lua53_and_luau : List ℕ
lua53_and_luau = 3 ∷ 6 ∷ []

abbrev lent : List ℕ
lent = ascii "........"

-- a literal that is one code point in these digits
abbrev code_point : List ℕ → List ℕ
code_point digits = ascii "\"\\u{" ++ digits ++ ascii "}\""

-- Digits and the bytes of what they spell: the first and the last of each number of bytes, surrogates, the last that
-- has a character, five and six bytes that all differ, and many digits.
abbrev pub code_points : List (List ℕ × List ℕ)
code_points =
    (ascii "0", 0x00 ∷ []) ∷
    (ascii "7F", 0x7F ∷ []) ∷
    (ascii "80", 0xC2 ∷ 0x80 ∷ []) ∷
    (ascii "7FF", 0xDF ∷ 0xBF ∷ []) ∷
    (ascii "800", 0xE0 ∷ 0xA0 ∷ 0x80 ∷ []) ∷
    (ascii "D800", 0xED ∷ 0xA0 ∷ 0x80 ∷ []) ∷
    (ascii "DFFF", 0xED ∷ 0xBF ∷ 0xBF ∷ []) ∷
    (ascii "FFFF", 0xEF ∷ 0xBF ∷ 0xBF ∷ []) ∷
    (ascii "10000", 0xF0 ∷ 0x90 ∷ 0x80 ∷ 0x80 ∷ []) ∷
    (ascii "10FFFF", 0xF4 ∷ 0x8F ∷ 0xBF ∷ 0xBF ∷ []) ∷
    (ascii "110000", 0xF4 ∷ 0x90 ∷ 0x80 ∷ 0x80 ∷ []) ∷
    (ascii "1FFFFF", 0xF7 ∷ 0xBF ∷ 0xBF ∷ 0xBF ∷ []) ∷
    (ascii "200000", 0xF8 ∷ 0x88 ∷ 0x80 ∷ 0x80 ∷ 0x80 ∷ []) ∷
    (ascii "1234567", 0xF9 ∷ 0x88 ∷ 0xB4 ∷ 0x95 ∷ 0xA7 ∷ []) ∷
    (ascii "3FFFFFF", 0xFB ∷ 0xBF ∷ 0xBF ∷ 0xBF ∷ 0xBF ∷ []) ∷
    (ascii "4000000", 0xFC ∷ 0x84 ∷ 0x80 ∷ 0x80 ∷ 0x80 ∷ 0x80 ∷ []) ∷
    (ascii "12345678", 0xFC ∷ 0x92 ∷ 0x8D ∷ 0x85 ∷ 0x99 ∷ 0xB8 ∷ []) ∷
    (ascii "7FFFFFFF", 0xFD ∷ 0xBF ∷ 0xBF ∷ 0xBF ∷ 0xBF ∷ 0xBF ∷ []) ∷
    (ascii "000000000000000000041", 0x41 ∷ []) ∷ []

abbrev decoded_to : List ℕ × List ℕ → Case
decoded_to row = case lua54and55 (decode (code_point row.0) lent) (decoded_value row.1 (drop (length row.1) lent))

pub code_points_hold : told (each decoded_to code_points) ≡ wanted (each decoded_to code_points)
unfolding computed
code_points_hold = refl

-- More than 7FFFFFFF, a number whose lowest 64 bits are 41, no digit, and an output of five bytes for six. In the
-- other versions: 5.3 and Luau decode characters, Luau in at most 16 digits; 5.2 refuses `\u`, 5.1 reads a letter.
abbrev pub other_code_points : List Case
other_code_points =
    case lua54and55 (decode (code_point (ascii "80000000")) lent) (not_decoded 24 0 lent)
    ∷ case lua54and55 (decode (code_point (ascii "10000000000000041")) lent) (not_decoded 24 0 lent)
    ∷ case lua54and55 (decode (code_point []) lent) (not_decoded 24 0 lent)
    ∷ case lua54and55 (decode (code_point (ascii "7FFFFFFF")) (ascii ".....")) (not_decoded 26 0 (ascii "....."))
    ∷ case lua53_and_luau (decode (code_point (ascii "D800")) lent) (not_decoded 24 0 lent)
    ∷ case lua53_and_luau (decode (code_point (ascii "DFFF")) lent) (not_decoded 24 0 lent)
    ∷ case lua53_and_luau (decode (code_point (ascii "110000")) lent) (not_decoded 24 0 lent)
    ∷ case lua53_and_luau (decode (code_point (ascii "10FFFF")) lent)
    (decoded_value (0xF4 ∷ 0x8F ∷ 0xBF ∷ 0xBF ∷ []) (ascii "...."))
    ∷ case (only 3) (decode (code_point (ascii "000000000000000000041")) lent)
    (decoded_value (ascii "A") (ascii "......."))
    ∷ case (only 6) (decode (code_point (ascii "0000000000000041")) lent) (decoded_value (ascii "A") (ascii "......."))
    ∷ case (only 6) (decode (code_point (ascii "00000000000000041")) lent) (not_decoded 24 0 lent)
    ∷ case (only 2) (decode (code_point (ascii "41")) lent) (not_decoded 24 0 lent)
    ∷ case (only 1) (decode (code_point (ascii "41")) lent) (decoded_value (ascii "u{41}") (ascii "..."))
    ∷ []

pub other_code_points_hold : told other_code_points ≡ wanted other_code_points
unfolding computed
other_code_points_hold = refl

-- A value that is not UTF-8 is 23 to every check: ED A0 80 is `\u{D800}` of 5.4, and FF is `\255`.
abbrev with_surrogate : List ℕ
with_surrogate = ascii "a" ++ (0xED ∷ 0xA0 ∷ 0x80 ∷ [])

abbrev with_ff : List ℕ
with_ff = ascii "a" ++ (0xFF ∷ [])

abbrev checks : List ℕ → List Asked
checks text = format text ∷ pattern text ∷ pack text ∷ packsize text ∷ date text ∷ replacement None text ∷ []

abbrev not_utf8 : Asked → Case
not_utf8 asked = case every asked (checked (record { number = 23; offset = 1; first = 0; second = 0; count = 0 }))

abbrev pub values_checked : List Case
values_checked =
    case every (decode (ascii "'a\\255'") lent) (decoded_value with_ff (ascii "......"))
    ∷ each not_utf8 (checks with_surrogate ++ checks with_ff)

pub values_checked_hold : told values_checked ≡ wanted values_checked
unfolding computed
values_checked_hold = refl

-- ---- F-6: a replacement of 5.1 with captures unknown, or known to be 9 or more, is accepted once it is UTF-8

abbrev pub once_utf8 : List Case
once_utf8 =
    case (only 1) (replacement None (ascii "%9%x%"))
    (checked (record { number = 0; offset = 0; first = 0; second = 0; count = 0 }))
    ∷ case (only 1) (replacement (Some 9) (ascii "%9%x%"))
    (checked (record { number = 0; offset = 0; first = 0; second = 0; count = 0 }))
    ∷ case (only 1) (replacement (Some 8) (ascii "%9%x%"))
    (checked (record { number = 21; offset = 1; first = 0; second = 0; count = 0 }))
    ∷ case after51 (replacement None (ascii "%9%x%"))
    (checked (record { number = 20; offset = 3; first = 0; second = 0; count = 0 }))
    ∷ case (only 1) (replacement None (ascii "%9" ++ (0xFF ∷ [])))
    (checked (record { number = 23; offset = 2; first = 0; second = 0; count = 0 }))
    ∷ case (only 1) (literal (code "G") None 0 (ascii "'%9%x%'"))
    (unspanned (record { number = 0; offset = 0; first = 0; second = 0; count = 0 }))
    ∷ case (only 1) (literal (code "G") (Some 8) 0 (ascii "'%9%x%'"))
    (spanned (record { number = 21; offset = 1; first = 0; second = 0; count = 0 }) 2 3)
    ∷ case (only 1) (literal (code "G") None 0 (ascii "'%9\\65'"))
    skipped
    ∷ []

pub once_utf8_holds : told once_utf8 ≡ wanted once_utf8
unfolding computed
once_utf8_holds = refl

-- ---- F-10: reversed ranges

-- a character of two bytes
abbrev é : List ℕ
é = 0xC3 ∷ 0xA9 ∷ []

-- A pattern, its number and its offset, in every version.
abbrev pub ranges : List (List ℕ × (ℕ × ℕ))
ranges =
    (ascii "[z-a]", (39, 1)) ∷
    (ascii "[a-z]", (0, 0)) ∷
    (ascii "[a-a]", (0, 0)) ∷
    (ascii "[^z-a]", (39, 2)) ∷
    (ascii "%f[z-a]", (39, 3)) ∷
    -- the first of a set, and the first set
    (ascii "[a-cz-bb-a]", (39, 4)) ∷
    (ascii "[a-z][z-a][b-a]", (39, 6)) ∷
    -- as the matching reads them: `%` can be a right end, not a left one; `]` can be a left end in the first place
    (ascii "[z-%a]", (39, 1)) ∷
    (ascii "[%z-a]", (0, 0)) ∷
    (ascii "[!-%%g]", (0, 0)) ∷
    (ascii "[a-%%z-b]", (39, 1)) ∷
    (ascii "[!-%%z-b]", (0, 0)) ∷
    (ascii "[^]-!]", (39, 2)) ∷
    (ascii "[--!]", (39, 1)) ∷
    -- no range
    (ascii "[z-]", (0, 0)) ∷
    (ascii "[z%-a]", (0, 0)) ∷
    (ascii "[a-z-!]", (0, 0)) ∷
    (ascii "z-a", (0, 0)) ∷
    (ascii "%[z-a]", (0, 0)) ∷
    (ascii "%bz-", (0, 0)) ∷
    -- a backslash is a byte
    (ascii "[z-a]\\n", (39, 1)) ∷
    (ascii "[z-\\]", (39, 1)) ∷
    -- a fault before the set, in it, and after it
    (ascii ")[z-a]", (11, 0)) ∷
    (ascii "[z-a", (8, 0)) ∷
    (ascii "[z-a%", (1, 4)) ∷
    (ascii "[z-a])", (39, 1)) ∷
    (ascii "([z-a]", (39, 2)) ∷
    (ascii "[z-a]%", (39, 1)) ∷
    -- bytes of characters
    (ascii "[" ++ é ++ ascii "-a]", (39, 2)) ∷
    (ascii "[a-" ++ é ++ ascii "]", (0, 0)) ∷
    (ascii "[" ++ (0xE2 ∷ 0x82 ∷ 0xAC ∷ []) ++ ascii "-" ++ é ++ ascii "]", (0, 0)) ∷
    (ascii "[" ++ é ++ ascii "-" ++ é ++ ascii "]", (0, 0)) ∷
    (ascii "[z-a]" ++ (0xFF ∷ []), (23, 5)) ∷ []

abbrev range_case : List ℕ × (ℕ × ℕ) → Case
range_case row =
    case every (pattern row.0)
    (checked (record { number = row.1.0; offset = row.1.1; first = 0; second = 0; count = 0 }))

pub ranges_hold : told (each range_case ranges) ≡ wanted (each range_case ranges)
unfolding computed
ranges_hold = refl

-- In a literal: the span is one byte wide, inside a character too; a body with a backslash is not tested; one with a
-- numeric escape is skipped. A trial runs what is refused with 39: `[z-a]` fits no byte, `[^z-a]` every byte.
abbrev reversed_at : ℕ → ℕ → ℕ → Told
reversed_at offset start end =
    spanned (record { number = 39; offset = offset; first = 0; second = 0; count = 0 }) start end

abbrev pub ranges_elsewhere : List Case
ranges_elsewhere =
    case every (literal (code "P") None 10 (ascii "'[z-a]'")) (reversed_at 1 12 13)
    ∷ case every (literal (code "P") None 10 (ascii "'[" ++ é ++ ascii "-a]'")) (reversed_at 2 13 14)
    ∷ case every (literal (code "P") None 0xFFFF_FFFE (ascii "'[z-a]'")) (reversed_at 1 0xFFFF_FFFF 0xFFFF_FFFF)
    ∷ case every (literal (code "P") None 10 (ascii "\"[z-%a]\"")) (reversed_at 1 12 13)
    ∷ case every (literal (code "P") None 10 (ascii "'[\"z-a]'")) (reversed_at 2 13 14)
    ∷ case every (literal (code "P") None 10 (ascii "'[z-a]\\'"))
    (unspanned (record { number = 0; offset = 0; first = 0; second = 0; count = 0 }))
    ∷ case every (literal (code "P") None 10 (ascii "'[z-a]\\n'"))
    (unspanned (record { number = 0; offset = 0; first = 0; second = 0; count = 0 }))
    ∷ case every (literal (code "P") None 10 (ascii "'\\n([z-a]'"))
    (spanned (record { number = 11; offset = 8; first = 0; second = 0; count = 0 }) 19 20)
    ∷ case every (literal (code "P") None 10 (ascii "'[z-a]\\65'")) skipped
    ∷ case every (literal (code "F") None 10 (ascii "'[z-a]'"))
    (unspanned (record { number = 0; offset = 0; first = 0; second = 0; count = 0 }))
    ∷ case every (trial (ascii "az") (ascii "[z-a]") (ascii "x") 1000 (ascii "..."))
    (tried (record { number = 0; kind = 0; written = 2; replacements = 0; steps = 3 }) (ascii "az."))
    ∷ case every (trial (ascii "az") (ascii "[^z-a]") (ascii "x") 1000 (ascii "..."))
    (tried (record { number = 0; kind = 0; written = 2; replacements = 2; steps = 5 }) (ascii "xx."))
    ∷ []

pub ranges_elsewhere_hold : told ranges_elsewhere ≡ wanted ranges_elsewhere
unfolding computed trial_computed
ranges_elsewhere_hold = refl
