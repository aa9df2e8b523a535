-- Cases of document 01 that are not starred, and what its text says besides, whole answers by computation: the rows of
-- its table of refusals but 30 and 31 of a line (luck_lines), the open places of the trial (the step before the raise,
-- the level before the step, kinds 5 and 8 before 28, the attempt after the last match), each item, each kind of single
-- and of 29, and each way of writing once.
-- Assumes nothing.
use Rattle.std.specs.Prelude.{ℕ, zero, suc, ◌≡◌, refl, List, [], ◌∷◌, ◌++◌, None, Some}
use Prim.Native.Char.{code}
use Rattle.luck_text.specs.Bytes.{ascii}
use Rattle.luck_linter.specs.Computed.{computed as checks_computed}
use Rattle.lstr_gsub.specs.Computed.{computed as trial_computed}
use Rattle.starred.specs.Cases.{format, pattern, pack, packsize, date, replacement, literal, decode, trial}
use Rattle.starred.specs.Cases.{checked, spanned, unspanned, skipped, decoded_value, not_decoded, tried}
use Rattle.starred.specs.Cases.{Case, case, only, after51, every, told, wanted}

abbrev times : ℕ → List ℕ → List ℕ
times zero text = []
times (suc n) text = text ++ times n text

-- ---- The checks

abbrev pub checks : List Case
checks =
    case (only 1) (format (ascii "%y"))
    (checked (record { number = 2; offset = 1; first = code "y"; second = 0; count = 0 }))
    ∷ case (only 1) (format (ascii "%-----d"))
    (checked (record { number = 0; offset = 0; first = 0; second = 0; count = 1 }))
    ∷ case (only 1) (format (ascii "%123d"))
    (checked (record { number = 4; offset = 1; first = 0; second = 0; count = 0 }))
    ∷ case (only 1) (format (ascii "%.123d"))
    (checked (record { number = 5; offset = 2; first = 0; second = 0; count = 0 }))
    ∷ case (only 4) (format (ascii "%000000000000000000000d"))
    (checked (record { number = 7; offset = 1; first = 0; second = 0; count = 0 }))
    ∷ case (only 6) (format (ascii "%5*"))
    (checked (record { number = 2; offset = 2; first = code "*"; second = 0; count = 0 }))
    ∷ case (only 1) (pattern (ascii "a%f"))
    (checked (record { number = 10; offset = 1; first = code "f"; second = 0; count = 0 }))
    ∷ case (only 1) (pattern (times 33 (ascii "(")))
    (checked (record { number = 12; offset = 32; first = 0; second = 0; count = 0 }))
    ∷ case (only 1) (pattern (times 32 (ascii "()")))
    (checked (record { number = 0; offset = 0; first = 0; second = 0; count = 32 }))
    ∷ case (only 1) (pattern (ascii "[]a]"))
    (checked (record { number = 0; offset = 0; first = 0; second = 0; count = 0 }))
    ∷ case (only 1) (pack (ascii "b1"))
    (checked (record { number = 14; offset = 1; first = code "1"; second = 0; count = 0 }))
    ∷ case (only 1) (pack (ascii "c")) (checked (record { number = 15; offset = 1; first = 0; second = 0; count = 0 }))
    ∷ case (only 1) (pack (ascii "i17"))
    (checked (record { number = 16; offset = 1; first = 0; second = 0; count = 0 }))
    ∷ case (only 1) (pack (ascii "!5j")) (checked (record { number = 0; offset = 0; first = 0; second = 0; count = 1 }))
    ∷ case (only 1) (packsize (ascii "bz"))
    (checked (record { number = 18; offset = 1; first = code "z"; second = 0; count = 0 }))
    ∷ case (only 2) (replacement None (ascii "a%"))
    (checked (record { number = 19; offset = 1; first = 0; second = 0; count = 0 }))
    ∷ case (only 2) (replacement None (ascii "%x"))
    (checked (record { number = 20; offset = 1; first = 0; second = 0; count = 0 }))
    ∷ case (only 1) (replacement None (ascii "%x"))
    (checked (record { number = 0; offset = 0; first = 0; second = 0; count = 0 }))
    ∷ case (only 2) (replacement (Some 0) (ascii "%2"))
    (checked (record { number = 21; offset = 1; first = 0; second = 0; count = 0 }))
    ∷ case (only 2) (date (ascii "%Q")) (checked (record { number = 22; offset = 1; first = 0; second = 0; count = 0 }))
    ∷ case (only 4) (pattern (0xFF ∷ []))
    (checked (record { number = 23; offset = 0; first = 0; second = 0; count = 0 }))
    ∷ case (only 7) (pattern []) (checked (record { number = 25; offset = 0; first = 0; second = 0; count = 0 }))
    ∷ []

pub checks_hold : told checks ≡ wanted checks
unfolding checks_computed
checks_hold = refl

-- ---- Literals: spans, of a character of two bytes and at the end too; skipped ones; 23 and what comes before it

abbrev pub literals : List Case
literals =
    case (only 1) (literal (code "F") None 10 (ascii "\"trip %y\""))
    (spanned (record { number = 2; offset = 6; first = code "y"; second = 0; count = 0 }) 17 18)
    ∷ case (only 1) (literal (code "F") None 10 (ascii "'%" ++ (0xC3 ∷ 0xA9 ∷ []) ++ ascii "'"))
    (spanned (record { number = 2; offset = 1; first = 0xE9; second = 0; count = 0 }) 12 14)
    ∷ case (only 4) (literal (code "P") None 10 (ascii "\"(a\""))
    (spanned (record { number = 11; offset = 2; first = 0; second = 0; count = 0 }) 13 14)
    ∷ case (only 4) (literal (code "F") None 0xFFFF_FFFE (ascii "\"a%#d\""))
    (spanned (record { number = 6; offset = 2; first = code "#"; second = code "d"; count = 0 })
    0xFFFF_FFFF 0xFFFF_FFFF)
    ∷ case (only 4) (literal (code "P") None 10 (ascii "\"(a)\""))
    (unspanned (record { number = 0; offset = 0; first = 0; second = 0; count = 1 }))
    ∷ case (only 4) (literal (code "P") None 10 (ascii "\"(\\097\""))
    skipped
    ∷ case (only 4) (literal (code "P") None 10 (ascii "[[(a]]"))
    skipped
    ∷ case (only 4) (literal (code "P") None 10 (ascii "\"(a" ++ (0xFF ∷ []) ++ ascii "\""))
    (unspanned (record { number = 23; offset = 3; first = 0; second = 0; count = 0 }))
    ∷ case (only 7) (literal (code "P") None 10 (0xFF ∷ []))
    (unspanned (record { number = 25; offset = 0; first = 0; second = 0; count = 0 }))
    ∷ case (only 7) (literal (code "Q") None 10 (0xFF ∷ []))
    (unspanned (record { number = 30; offset = 0; first = 0; second = 0; count = 0 }))
    ∷ []

pub literals_hold : told literals ≡ wanted literals
unfolding checks_computed
literals_hold = refl

-- ---- Decoding

abbrev five_bytes : List ℕ
five_bytes = ascii "....."

abbrev pub decodings : List Case
decodings =
    case (only 4) (decode (ascii "\"\\u{E9}\\z  \\065\"") five_bytes)
    (decoded_value (0xC3 ∷ 0xA9 ∷ ascii "A") (ascii ".."))
    ∷ case (only 4) (decode (ascii "[=[" ++ (code "\r" ∷ code "\n" ∷ []) ++ ascii "a]]]=]") five_bytes)
    (decoded_value (ascii "a]]") (ascii ".."))
    ∷ case (only 2) (decode (ascii "\"\\q\"") five_bytes) (not_decoded 24 0 five_bytes)
    ∷ case (only 1) (decode (ascii "\"\\q\"") five_bytes) (decoded_value (ascii "q") (ascii "...."))
    ∷ case (only 3) (decode (ascii "\"\\u{D800}\"") five_bytes) (not_decoded 24 0 five_bytes)
    ∷ case (only 4) (decode (ascii "'ab'") (ascii ".")) (not_decoded 26 0 (ascii "."))
    ∷ case (only 4) (decode (ascii "'a" ++ (0xFF ∷ []) ++ ascii "'") five_bytes) (not_decoded 23 2 five_bytes)
    ∷ case (only 7) (decode (0xFF ∷ []) five_bytes) (not_decoded 25 0 five_bytes)
    ∷ []

pub decodings_hold : told decodings ≡ wanted decodings
unfolding checks_computed
decodings_hold = refl

abbrev lua : List ℕ
lua = 1 ∷ 2 ∷ 3 ∷ 4 ∷ 5 ∷ []

abbrev lf : List ℕ
lf = code "\n" ∷ []

abbrev cr : List ℕ
cr = code "\r" ∷ []

abbrev escaped_breaks : List ℕ
escaped_breaks = ascii "'\\" ++ lf ++ cr ++ ascii "\\" ++ cr ++ lf ++ ascii "'"

abbrev long_breaks : List ℕ
long_breaks = ascii "[[" ++ lf ++ ascii "a" ++ cr ++ lf ++ lf ++ cr ++ cr ++ ascii "]]"

-- each other kind of escape, and of line break, in every version
abbrev pub escapes : List Case
escapes =
    case every (decode (ascii "\"\\a\\b\\f\\n\\r\\t\\v\\\\\\\"\\'\"") (ascii "..........."))
    (decoded_value (0x07 ∷ 0x08 ∷ 0x0C ∷ (lf ++ cr ++ (code "\t" ∷ 0x0B ∷ ascii "\\\"'"))) (ascii "."))
    ∷ case every (decode (ascii "'\\0651\\9\\255'") five_bytes)
    (decoded_value (ascii "A1" ++ (code "\t" ∷ 0xFF ∷ [])) (ascii "."))
    ∷ case every (decode (ascii "'\\256'") five_bytes) (not_decoded 24 0 five_bytes)
    ∷ case (only 1) (decode (ascii "'\\x4a\\z a'") (ascii "......")) (decoded_value (ascii "x4az a") [])
    ∷ case after51 (decode (ascii "'\\x4a\\x4A\\z a'") (ascii "......")) (decoded_value (ascii "JJa") (ascii "..."))
    ∷ case after51 (decode (ascii "'\\x4'") five_bytes) (not_decoded 24 0 five_bytes)
    ∷ case (3 ∷ 4 ∷ 5 ∷ 6 ∷ []) (decode (ascii "'\\u{e9}'") five_bytes)
    (decoded_value (0xC3 ∷ 0xA9 ∷ []) (ascii "..."))
    ∷ case (1 ∷ 6 ∷ []) (decode (ascii "'\\q'") five_bytes) (decoded_value (ascii "q") (ascii "...."))
    ∷ case (2 ∷ 3 ∷ 4 ∷ 5 ∷ []) (decode (ascii "'\\q'") five_bytes) (not_decoded 24 0 five_bytes)
    ∷ case lua (decode escaped_breaks five_bytes) (decoded_value (lf ++ lf) (ascii "..."))
    ∷ case (only 6) (decode escaped_breaks five_bytes) (decoded_value (lf ++ cr ++ lf) (ascii ".."))
    ∷ case lua (decode long_breaks (ascii ".......")) (decoded_value (ascii "a" ++ lf ++ lf ++ lf) (ascii "..."))
    ∷ case (only 6) (decode long_breaks (ascii "......."))
    (decoded_value (ascii "a" ++ lf ++ lf ++ cr ++ cr) (ascii ".."))
    ∷ []

pub escapes_hold : told escapes ≡ wanted escapes
unfolding checks_computed
escapes_hold = refl

-- ---- The trial

abbrev lent : List ℕ
lent = ascii "............"

abbrev pub trials : List Case
trials =
    case (only 4) (trial (ascii "aaa") (ascii "a*") (ascii "x") 1000 lent)
    (tried (record { number = 0; kind = 0; written = 1; replacements = 1; steps = 7 }) (ascii "x..........."))
    ∷ case (only 4) (trial (ascii "aab") (ascii "a-b") (ascii "x") 1000 lent)
    (tried (record { number = 0; kind = 0; written = 1; replacements = 1; steps = 8 }) (ascii "x..........."))
    ∷ case (only 4) (trial (ascii "a") (ascii "a") (ascii "xx") 1000 (ascii "."))
    (tried (record { number = 26; kind = 0; written = 1; replacements = 1; steps = 2 }) (ascii "x"))
    ∷ case (only 4) (trial (times 200 (ascii "a")) (times 200 (ascii "a?")) (ascii "x") 200 lent)
    (tried (record { number = 28; kind = 0; written = 0; replacements = 0; steps = 200 }) lent)
    ∷ case (only 4) (trial (times 200 (ascii "a")) (times 200 (ascii "a?")) (ascii "x") 199 lent)
    (tried (record { number = 27; kind = 0; written = 0; replacements = 0; steps = 199 }) lent)
    ∷ case (only 4) (trial (ascii "a") (ascii ")") (ascii "x") 1 lent)
    (tried (record { number = 29; kind = 5; written = 0; replacements = 0; steps = 1 }) lent)
    ∷ case (only 4) (trial (ascii "a") (ascii ")") (ascii "x") 0 lent)
    (tried (record { number = 27; kind = 0; written = 0; replacements = 0; steps = 0 }) lent)
    ∷ case (only 4) (trial (times 300 (ascii "a")) (times 199 (ascii "a?") ++ ascii ")") (ascii "x") 1000 lent)
    (tried (record { number = 29; kind = 5; written = 0; replacements = 0; steps = 200 }) lent)
    ∷ case (only 4)
    (trial (times 300 (ascii "a")) (times 32 (ascii "()") ++ times 167 (ascii "a?") ++ ascii "(") (ascii "x") 1000 lent)
    (tried (record { number = 29; kind = 8; written = 0; replacements = 0; steps = 200 }) lent)
    ∷ case (only 4) (trial [] [] (ascii "x") 1000 lent)
    (tried (record { number = 0; kind = 0; written = 1; replacements = 1; steps = 2 }) (ascii "x..........."))
    ∷ case (only 4) (trial (ascii "ab") [] (ascii "x") 1000 lent)
    (tried (record { number = 0; kind = 0; written = 5; replacements = 3; steps = 6 }) (ascii "xaxbx......."))
    ∷ case (only 4) (trial (ascii "a]-") (ascii "[!-%%]") (ascii "x") 1000 lent)
    (tried (record { number = 0; kind = 0; written = 3; replacements = 1; steps = 5 }) (ascii "ax-........."))
    ∷ case (only 4) (trial (ascii "aab") (ascii "^a") (ascii "x") 1000 lent)
    (tried (record { number = 0; kind = 0; written = 3; replacements = 1; steps = 2 }) (ascii "xab........."))
    ∷ case (only 4) (trial (ascii "baa") (ascii "^a") (ascii "x") 1000 (ascii ".."))
    (tried (record { number = 26; kind = 0; written = 2; replacements = 0; steps = 1 }) (ascii "ba"))
    ∷ case (only 4) (trial (ascii "(a(b))c") (ascii "%b()") (ascii "<%0>") 1000 lent)
    (tried (record { number = 0; kind = 0; written = 9; replacements = 1; steps = 4 }) (ascii "<(a(b))>c..."))
    ∷ case (only 4) (trial (ascii "a.a") (ascii "%baa") (ascii "x") 1000 lent)
    (tried (record { number = 0; kind = 0; written = 1; replacements = 1; steps = 3 }) (ascii "x..........."))
    ∷ case (only 4) (trial (ascii "THE cat") (ascii "%f[%a]%a+") (ascii "<%0>") 1000 lent)
    (tried (record { number = 0; kind = 0; written = 11; replacements = 2; steps = 14 }) (ascii "<THE> <cat>."))
    ∷ case (only 4) (trial (ascii "abab") (ascii "(ab)%1") (ascii "<%1>") 1000 lent)
    (tried (record { number = 0; kind = 0; written = 4; replacements = 1; steps = 8 }) (ascii "<ab>........"))
    ∷ case (only 4) (trial (ascii "ab") (ascii "()%1") (ascii "x") 1000 lent)
    (tried (record { number = 0; kind = 0; written = 2; replacements = 0; steps = 6 }) (ascii "ab.........."))
    ∷ case (only 4) (trial (ascii "ab") (ascii "()") (ascii "%1") 1000 lent)
    (tried (record { number = 0; kind = 0; written = 5; replacements = 3; steps = 12 }) (ascii "1a2b3......."))
    ∷ case (only 4) (trial (ascii "ab") (ascii "(a)(b)") (ascii "%2%1") 1000 lent)
    (tried (record { number = 0; kind = 0; written = 2; replacements = 1; steps = 9 }) (ascii "ba.........."))
    ∷ case (only 4) (trial (ascii "ab") (ascii "a") (ascii "[%1]") 1000 lent)
    (tried (record { number = 0; kind = 0; written = 4; replacements = 1; steps = 4 }) (ascii "[a]b........"))
    ∷ case (only 4) (trial (ascii "ab") (ascii "a") (ascii "%2") 1000 lent)
    (tried (record { number = 29; kind = 10; written = 0; replacements = 1; steps = 2 }) lent)
    ∷ case (only 4) (trial (ascii "ab") (ascii "(a") (ascii "%1") 1000 lent)
    (tried (record { number = 29; kind = 6; written = 0; replacements = 1; steps = 3 }) lent)
    ∷ case (only 4) (trial (ascii "a") (ascii "a") (ascii "%%") 1000 lent)
    (tried (record { number = 0; kind = 0; written = 1; replacements = 1; steps = 3 }) (ascii "%..........."))
    ∷ case (only 4) (trial (ascii "ab-") (ascii "[^%w]") (ascii "x") 1000 lent)
    (tried (record { number = 0; kind = 0; written = 3; replacements = 1; steps = 5 }) (ascii "abx........."))
    ∷ case (only 4) (trial (ascii "ab") (ascii "a.") (ascii "x") 1000 lent)
    (tried (record { number = 0; kind = 0; written = 1; replacements = 1; steps = 4 }) (ascii "x..........."))
    ∷ case (only 1) (trial (ascii "a") (ascii "a") (ascii "%x") 1000 lent)
    (tried (record { number = 0; kind = 0; written = 1; replacements = 1; steps = 3 }) (ascii "x..........."))
    ∷ case (only 1) (trial (ascii "a") (ascii "a") (ascii "%") 1000 lent)
    (tried (record { number = 0; kind = 0; written = 1; replacements = 1; steps = 3 }) (0 ∷ ascii "..........."))
    ∷ case (only 4) (trial (ascii "a") (ascii "a") (ascii "y%") 1000 lent)
    (tried (record { number = 29; kind = 9; written = 1; replacements = 1; steps = 2 }) (ascii "y..........."))
    ∷ case (only 4) (trial (ascii "a") (ascii "(a%1)") (ascii "x") 1000 lent)
    (tried (record { number = 29; kind = 7; written = 0; replacements = 0; steps = 3 }) lent)
    ∷ case (only 4) (trial (ascii "a") (ascii "%") (ascii "x") 1000 lent)
    (tried (record { number = 29; kind = 1; written = 0; replacements = 0; steps = 1 }) lent)
    ∷ case (only 4) (trial (ascii "a") (ascii "[%") (ascii "x") 1000 lent)
    (tried (record { number = 29; kind = 2; written = 0; replacements = 0; steps = 1 }) lent)
    ∷ case (only 4) (trial (ascii "a") (ascii "%f") (ascii "x") 1000 lent)
    (tried (record { number = 29; kind = 3; written = 0; replacements = 0; steps = 1 }) lent)
    ∷ case (only 4) (trial (ascii "a") (ascii "%bx") (ascii "x") 1000 lent)
    (tried (record { number = 29; kind = 4; written = 0; replacements = 0; steps = 1 }) lent)
    ∷ case (only 4) (trial (ascii "a") (times 33 (ascii "(")) (ascii "x") 1000 lent)
    (tried (record { number = 29; kind = 8; written = 0; replacements = 0; steps = 33 }) lent)
    ∷ case (only 4) (trial (ascii "aab") (ascii "a+b") (ascii "x") 1000 lent)
    (tried (record { number = 0; kind = 0; written = 1; replacements = 1; steps = 6 }) (ascii "x..........."))
    ∷ case (only 4) (trial (ascii "ab") (ascii "b$") (ascii "x") 1000 lent)
    (tried (record { number = 0; kind = 0; written = 2; replacements = 1; steps = 4 }) (ascii "ax.........."))
    ∷ case (only 4) (trial (ascii "a") (ascii "a?a") (ascii "x") 1000 lent)
    (tried (record { number = 0; kind = 0; written = 1; replacements = 1; steps = 6 }) (ascii "x..........."))
    ∷ case (only 4) (trial (ascii "a-b") (ascii "[a-]") (ascii "x") 1000 lent)
    (tried (record { number = 0; kind = 0; written = 3; replacements = 2; steps = 6 }) (ascii "xxb........."))
    ∷ case (only 4) (trial (ascii "a$b") (ascii "a$b") (ascii "x") 1000 lent)
    (tried (record { number = 0; kind = 0; written = 1; replacements = 1; steps = 5 }) (ascii "x..........."))
    ∷ case (only 4) (trial (ascii "ab") (ascii "b%f[%z]") (ascii "x") 1000 lent)
    (tried (record { number = 0; kind = 0; written = 2; replacements = 1; steps = 5 }) (ascii "ax.........."))
    ∷ case (only 4) (trial (ascii "aaaaaaaaaab") (ascii "()b") (ascii "%1") 1000 lent)
    (tried (record { number = 0; kind = 0; written = 12; replacements = 1; steps = 25 }) (ascii "aaaaaaaaaa11"))
    ∷ case (only 4) (trial (times 100 (ascii "ab")) (times 100 (ascii "a*b*")) (ascii "x") 1000 lent)
    (tried (record { number = 28; kind = 0; written = 0; replacements = 0; steps = 400 }) lent)
    ∷ case (only 4) (trial (times 100 (ascii "ab")) (times 100 (ascii "a+b+")) (ascii "x") 1000 lent)
    (tried (record { number = 28; kind = 0; written = 0; replacements = 0; steps = 400 }) lent)
    ∷ case (only 4) (trial (ascii "a") (times 200 (ascii "a-")) (ascii "x") 1000 lent)
    (tried (record { number = 28; kind = 0; written = 0; replacements = 0; steps = 200 }) lent)
    ∷ case (only 7) (trial (ascii "a") (ascii "a") (ascii "x") 1000 lent)
    (tried (record { number = 25; kind = 0; written = 0; replacements = 0; steps = 0 }) lent)
    ∷ []

pub trials_hold : told trials ≡ wanted trials
unfolding trial_computed
trials_hold = refl
