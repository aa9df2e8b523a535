-- What the code of classes promises the matching. This crate is for the trial only, and no contract
-- of `gsub` rests on these.
-- Assumes nothing.
use Rattle.std.specs.Prelude.{ℕ, ◌+◌, Bool, true, false, not, List, eqb, ltb}
use Prim.Native.Char.{code}
use Rattle.std.specs.Int.Bits.{bit_and}
use Rattle.luck_text.specs.Bytes.{when◌then◌else◌, byte_at, is_digit, is_xdigit, is_lua_whitespace}
use Rattle.lstr_class.specs.Class.{is_lower, is_upper, is_cntrl, is_punct, to_lower}

-- ---- Classes

-- a bit for each class from which the others are made
abbrev pub cntrl : ℕ
cntrl = 1

abbrev pub digit : ℕ
digit = 2

abbrev pub lower : ℕ
lower = 4

abbrev pub punct : ℕ
punct = 8

abbrev pub space : ℕ
space = 16

abbrev pub upper : ℕ
upper = 32

abbrev pub xdigit : ℕ
xdigit = 64

abbrev pub zero_byte : ℕ
zero_byte = 128

unfoldable pub bit : ℕ → Bool → ℕ
bit n true = n
bit n false = 0

-- the mask of a byte
unfoldable pub mask_of : ℕ → ℕ
mask_of c =
    bit cntrl (is_cntrl c) + bit digit (is_digit c) + bit lower (is_lower c) + bit punct (is_punct c)
    + bit space (is_lua_whitespace c) + bit upper (is_upper c)
    + bit xdigit (is_xdigit c) + bit zero_byte (eqb c 0)

-- the bits of the class that a small letter names, 0 where it names none
unfoldable pub class_bits : ℕ → ℕ
class_bits letter =
    when eqb letter (code "a") then lower + upper
    else when eqb letter (code "c") then cntrl
    else when eqb letter (code "d") then digit
    else when eqb letter (code "g") then digit + lower + punct + upper
    else when eqb letter (code "l") then lower
    else when eqb letter (code "p") then punct
    else when eqb letter (code "s") then space
    else when eqb letter (code "u") then upper
    else when eqb letter (code "w") then digit + lower + upper
    else when eqb letter (code "x") then xdigit
    else when eqb letter (code "z") then zero_byte else 0

-- and those of a letter, small or capital
unfoldable pub bits_of : ℕ → ℕ
bits_of cl = class_bits (to_lower cl)

-- ---- The table of classes that is lent

-- it has the masks of the 256 bytes, then the bits of the class that each of them names. Numbers of 256 and more are no
-- bytes: without the test they would read the second half as masks. Past the table bits_in reads 0
abbrev pub mask_in : List ℕ → ℕ → ℕ
mask_in table c = when ltb c 256 then byte_at table c else 0

abbrev pub bits_in : List ℕ → ℕ → ℕ
bits_in table cl = byte_at table (256 + cl)

-- a byte without bits is itself; a capital, which stands before the small letters, is the complement
abbrev pub by_mask : ℕ → ℕ → ℕ → ℕ → Bool
by_mask bits mask cl c =
    when eqb bits 0 then eqb cl c
    else when ltb cl (code "a") then eqb (bit_and mask bits) 0 else not (eqb (bit_and mask bits) 0)

-- the class test that a table stands for
unfoldable pub class_in : List ℕ → ℕ → ℕ → Bool
class_in table cl c = by_mask (bits_in table cl) (mask_in table c) cl c
