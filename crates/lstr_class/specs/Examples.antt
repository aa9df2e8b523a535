-- The bytes that each class takes, of all 256, as the C standard lists isalpha and its kin for the C locale (document
-- 01, "The trial": classes are ASCII): no answer of a check shows them.
-- Assumes nothing.
use Rattle.std.specs.Prelude.{ℕ, zero, suc, ◌≡◌, refl, Bool, List, [], ◌∷◌, ◌++◌}
use Prim.Native.Char.{code}
use Rattle.luck_text.specs.Bytes.{when◌then◌else◌, ascii}
use Rattle.lstr_class.specs.Class.{match_class}
use Rattle.lstr_class.specs.Computed.{computed}

-- n bytes from this one on
abbrev from : ℕ → ℕ → List ℕ
from b zero = []
from b (suc n) = b ∷ from (suc b) n

abbrev filtered : (ℕ → Bool) → List ℕ → List ℕ
filtered test [] = []
filtered test (b ∷ bytes) = let more = filtered test bytes in when test b then b ∷ more else more

-- the bytes that fit `%` and this byte
abbrev taken : ℕ → List ℕ
taken letter = filtered (match_class letter) (from 0 256)

abbrev small : List ℕ
small = ascii "abcdefghijklmnopqrstuvwxyz"

abbrev capitals : List ℕ
capitals = ascii "ABCDEFGHIJKLMNOPQRSTUVWXYZ"

abbrev digits : List ℕ
digits = ascii "0123456789"

-- small letters
pub classes_take :
    (taken (code "a") ≡ capitals ++ small)
    × (taken (code "c") ≡ from 0 32 ++ (0x7F ∷ []))
    × (taken (code "d") ≡ digits)
    × (taken (code "g")
    ≡ ascii "!\"#$%&'()*+,-./0123456789:;<=>?@" ++ (capitals ++ (ascii "[\\]^_`" ++ (small ++ ascii "{|}~"))))
    × (taken (code "l") ≡ small)
    × (taken (code "p") ≡ ascii "!\"#$%&'()*+,-./:;<=>?@[\\]^_`{|}~")
    × (taken (code "s") ≡ ascii "\t\n" ++ (0x0B ∷ 0x0C ∷ ascii "\r "))
    × (taken (code "u") ≡ capitals)
    × (taken (code "w") ≡ digits ++ (capitals ++ small))
    × (taken (code "x") ≡ digits ++ (ascii "ABCDEF" ++ ascii "abcdef"))
    × (taken (code "z") ≡ 0 ∷ [])
unfolding computed
classes_take = (refl, refl, refl, refl, refl, refl, refl, refl, refl, refl, refl)

-- a capital takes the others
pub capitals_take :
    (taken (code "A") ≡ from 0 65 ++ (ascii "[\\]^_`" ++ from 123 133))
    × (taken (code "C") ≡ from 32 95 ++ from 128 128)
    × (taken (code "D") ≡ from 0 48 ++ from 58 198)
    × (taken (code "S") ≡ from 0 9 ++ (from 14 18 ++ from 33 223))
    × (taken (code "Z") ≡ from 1 255)
unfolding computed
capitals_take = (refl, refl, refl, refl, refl)

-- and a byte that names no class takes itself
pub others_take :
    (taken (code "b") ≡ ascii "b") × (taken (code "]") ≡ ascii "]") × (taken (code "%") ≡ ascii "%")
    × (taken 0xFF ≡ 0xFF ∷ [])
unfolding computed
others_take = (refl, refl, refl, refl)
