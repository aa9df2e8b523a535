-- Texts and bytes, on which all other definitions stand. A text is a list of bytes and a byte a number. A place past
-- the end of a text reads as 0, as C's closing zero byte. Here and everywhere `-` on numbers stops at 0: 2 - 3 is 0.
-- Assumes nothing.
use Rattle.std.specs.Prelude.{ℕ, suc, ◌+◌, ◌*◌, ◌-◌, Bool, true, false, ◌&&◌, ◌||◌}
use Rattle.std.specs.Prelude.{List, [], ◌∷◌, ◌++◌, length, get_or, take, drop, leb, eqb}
use Prim.Native.Char.{code}
use Prim.Native.String.{String, [] as empty, ◌∷◌ as ◌then◌}

infixr 5 when◌then◌else◌
-- The library's `if◌then◌else◌` unfolds everywhere. This choice unfolds only where a proof says so, so that goals about
-- nested ones stay small; it has a word of its own, since the library's may have no other meaning.
-- both branches are computed before the choice: a branch that recurs is bound by a `let`, which waits
unfoldable pub when◌then◌else◌ : {A : Type 0} → Bool → A → A → A
when◌then◌else◌ true x y = x
when◌then◌else◌ false x y = y

abbrev pub byte_at : List ℕ → ℕ → ℕ
byte_at text p = get_or text p 0

-- the bytes from a place up to another, which does not belong to them
abbrev pub part : List ℕ → ℕ → ℕ → List ℕ
part text from to = take (to - from) (drop from text)

-- a lent output after these bytes were written to its front: the rest is as it was
abbrev pub in_front : List ℕ → List ℕ → List ℕ
in_front written output = written ++ drop (length written) output

-- a text of ASCII characters as its bytes
abbrev pub ascii : String → List ℕ
ascii empty = []
ascii (c then s) = code c ∷ ascii s

abbrev pub between : ℕ → ℕ → ℕ → Bool
between low high b = leb low b && leb b high

-- a number is one of a list
unfoldable pub among : ℕ → List ℕ → Bool
among b [] = false
among b (x ∷ xs) = eqb b x || among b xs

-- isdigit and isxdigit of the C locale
unfoldable pub is_digit : ℕ → Bool
is_digit b = between (code "0") (code "9") b

unfoldable pub is_xdigit : ℕ → Bool
is_xdigit b = is_digit b || between (code "a") (code "f") b || between (code "A") (code "F") b

-- is_lua_whitespace of luck's whitespace.rs, and C's isspace: space, and HT, LF, VT, FF, CR
unfoldable pub is_lua_whitespace : ℕ → Bool
is_lua_whitespace b = eqb b (code " ") || between (code "\t") (code "\r") b

-- how many bytes at the front of a text pass a test, up to the first that does not
unfoldable pub run : (ℕ → Bool) → List ℕ → ℕ
run test [] = 0
run test (b ∷ text) = let more = suc (run test text) in when test b then more else 0

-- the value of a digit, hexadecimal ones included
unfoldable pub digit_value : ℕ → ℕ
digit_value b =
    when leb b (code "9") then b - code "0"
    else when leb b (code "F") then b - code "A" + 10 else b - code "a" + 10

-- the number that digits spell to a base, behind digits that spell `high`
unfoldable pub numeral_from : ℕ → ℕ → List ℕ → ℕ
numeral_from base high [] = high
numeral_from base high (d ∷ digits) = numeral_from base (high * base + digit_value d) digits

unfoldable pub numeral : ℕ → List ℕ → ℕ
numeral base digits = numeral_from base 0 digits
