-- How a format of string.pack is read (getoption of lstrlib.c), and which are accepted (validate_pack_format of luck):
-- document 01, "Checks that the trial does not need", and point 7 of document 03. An option is read with its letter and
-- its number, and judged by its kind and size. Sizes that the build decides are luck's: `h` is 2, `d` and `n` are 8 and
-- the others 4, so that `!5j` is accepted and `!5n` refused. `c` takes any number, where getnum of lstrlib.c stops at
-- the largest int.
-- Assumes nothing.
use Rattle.std.specs.Prelude.{ℕ, zero, suc, ◌+◌, ◌-◌, min, Bool, not, ◌&&◌, Option, None, Some}
use Rattle.std.specs.Prelude.{List, [], ◌∷◌, length, drop, eqb, leb, ltb}
use Prim.Native.Char.{code}
use Rattle.luck_text.specs.Bytes.{when◌then◌else◌, byte_at, part, ascii, between, among, is_digit, run, numeral}
use Rattle.luck_utf8.specs.Utf8.{char_at}
use Rattle.luck_text.specs.Walk.{Turn, stop, goes, walk_from}
use Rattle.luck_answer.specs.Answer.{Answer, accepted, refused, refused_with, check_text}

-- ---- Reading

-- an option: its letter, and the number behind it, none where no digit stands there
pub record PackOption : Type 0 where
  pub letter : ℕ
  pub number : Option ℕ

abbrev pub pack_option : ℕ → Option ℕ → PackOption
pack_option letter number = record { letter = letter; number = number }

-- an option and its width in bytes, or a fault
pub data OptionRead : Type 0 where
  option : PackOption → ℕ → OptionRead
  fault : Answer → OptionRead

-- getnumlimit: a number from 1 to 16, or none; its digits stand at p, behind the letter, which the width counts
unfoldable pub getnumlimit : ℕ → List ℕ → ℕ → OptionRead
getnumlimit letter text p =
    let digits = run is_digit (drop p text) in
    let number = numeral 10 (part text p (p + digits)) in
    when eqb digits 0 then option (pack_option letter None) 1
    else when between 1 16 number then option (pack_option letter (Some number)) (1 + digits) else fault (refused 16 p)

-- `c` needs a number, whose digits stand at p
unfoldable pub fixed_string : List ℕ → ℕ → OptionRead
fixed_string text p =
    let digits = run is_digit (drop p text) in
    let number = numeral 10 (part text p (p + digits)) in
    when eqb digits 0 then fault (refused 15 p) else option (pack_option (code "c") (Some number)) (1 + digits)

-- the letters of getoption behind which it reads no number, and those with getnumlimit
abbrev pub bare_letters : List ℕ
bare_letters = ascii "bBhHlLjJTfdnzxX <>="

abbrev pub limited_letters : List ℕ
limited_letters = ascii "iIs!"

-- an option with a number; any other byte is refused, a digit behind an option that takes none too
unfoldable pub numbered_option : List ℕ → ℕ → OptionRead
numbered_option text p =
    let b = byte_at text p in
    when among b limited_letters then getnumlimit b text (p + 1)
    else when eqb b (code "c") then fixed_string text (p + 1) else fault (refused_with 14 p (char_at text p).code)

-- the option at place p
unfoldable pub getoption : List ℕ → ℕ → OptionRead
getoption text p =
    let b = byte_at text p in
    when leb (length text) p then fault (refused 15 p)
    else when among b bare_letters then option (pack_option b None) 1 else numbered_option text p

-- ---- Kind and size

-- KOption of lstrlib.c: whole numbers, signed and not; a float, a number of Lua's, a double; strings of a fixed length,
-- behind their length (`s`) and up to a zero byte; `x`; `X`; and what takes no value and no room (a space, an
-- endianness, `!`)
pub data KOption : Type 0 where
  Kint Kuint Kfloat Knumber Kdouble Kchar Kstring Kzstr Kpadding Kpaddalign Knop : KOption

-- the kind of a letter that getoption reads
unfoldable pub kind_of : ℕ → KOption
kind_of letter =
    when among letter (ascii "bhlji") then Kint
    else when among letter (ascii "BHLJTI") then Kuint
    else when eqb letter (code "f") then Kfloat
    else when eqb letter (code "n") then Knumber
    else when eqb letter (code "d") then Kdouble
    else when eqb letter (code "s") then Kstring
    else when eqb letter (code "c") then Kchar
    else when eqb letter (code "z") then Kzstr
    else when eqb letter (code "x") then Kpadding
    else when eqb letter (code "X") then Kpaddalign else Knop

-- an option's number, or the default where it has none
unfoldable pub number_or : ℕ → Option ℕ → ℕ
number_or default None = default
number_or default (Some number) = number

-- the size of a letter without a number, as luck takes it; 0 where no size is asked for
unfoldable pub luck_sizeof : ℕ → ℕ
luck_sizeof letter =
    when among letter (ascii "bB") then 1
    else when among letter (ascii "hH") then 2
    else when among letter (ascii "lLjJTfiIs") then 4
    else when among letter (ascii "dn") then 8 else 0

unfoldable pub luck_size : PackOption → ℕ
luck_size o = number_or (luck_sizeof o.letter) o.number

-- the maximum alignment after an option: `!` sets it, to 8 where no number stands behind it
unfoldable pub maxalign : PackOption → ℕ → ℕ
maxalign o before = when eqb o.letter (code "!") then number_or 8 o.number else before

-- ---- The walk, with the number of values and the maximum alignment so far

pub record PackState : Type 0 where
  pub values : ℕ
  pub alignment : ℕ

abbrev pub pack_state : ℕ → ℕ → PackState
pack_state values alignment = record { values = values; alignment = alignment }

abbrev pub one_more : PackState → PackState
one_more s = pack_state (s.values + 1) s.alignment

-- the powers of two among the sizes
unfoldable pub is_power_of_two : ℕ → Bool
is_power_of_two n = among n (1 ∷ 2 ∷ 4 ∷ 8 ∷ 16 ∷ [])

-- an option of this size is aligned to it, or to the maximum where that is smaller, which must be a power of two
unfoldable pub is_misaligned : ℕ → ℕ → Bool
is_misaligned size alignment = ltb 1 size && not (is_power_of_two (min size alignment))

-- the option at p, of this width and size
unfoldable pub aligned : ℕ → ℕ → ℕ → PackState → PackState → Turn PackState Answer
aligned p width size before after =
    when is_misaligned size before.alignment then stop (refused 17 p) else goes width after

-- packsize takes no option of variable length; luck tests this before the alignment, str_packsize after it
unfoldable pub variable : Bool → List ℕ → ℕ → Turn PackState Answer → Turn PackState Answer
variable packsize text p step = when packsize then stop (refused_with 18 p (char_at text p).code) else step

-- `X` at p, before an option of this width, which is passed over; none where `X` can't stand before it
unfoldable pub align_by : List ℕ → ℕ → PackState → ℕ → Option ℕ → Turn PackState Answer
align_by text p s width (Some size) = aligned p (1 + width) size s s
align_by text p s width None = stop (refused_with 14 (p + 1) (char_at text (p + 1)).code)

-- the walk with the sizes given
module _ (size_of : PackOption → ℕ) where
  -- what `X` may stand before, with its size
  unfoldable pub alignment_of : KOption → PackOption → Option ℕ
  alignment_of Kint o = Some (size_of o)
  alignment_of Kuint o = Some (size_of o)
  alignment_of Kfloat o = Some (size_of o)
  alignment_of Knumber o = Some (size_of o)
  alignment_of Kdouble o = Some (size_of o)
  alignment_of Kchar o = None
  alignment_of Kstring o = Some (size_of o)
  alignment_of Kzstr o = None
  alignment_of Kpadding o = Some 1
  alignment_of Kpaddalign o = None
  alignment_of Knop o = None

  unfoldable pub align_to_next : List ℕ → ℕ → PackState → OptionRead → Turn PackState Answer
  align_to_next text p s (option next width) = align_by text p s width (alignment_of (kind_of next.letter) next)
  align_to_next text p s (fault answer) = stop answer

  -- what an option of this kind and width does
  unfoldable pub kind_turn : Bool → List ℕ → ℕ → PackState → ℕ → PackOption → KOption → Turn PackState Answer
  kind_turn packsize text p s width o Kint = aligned p width (size_of o) s (one_more s)
  kind_turn packsize text p s width o Kuint = aligned p width (size_of o) s (one_more s)
  kind_turn packsize text p s width o Kfloat = aligned p width (size_of o) s (one_more s)
  kind_turn packsize text p s width o Knumber = aligned p width (size_of o) s (one_more s)
  kind_turn packsize text p s width o Kdouble = aligned p width (size_of o) s (one_more s)
  kind_turn packsize text p s width o Kchar = goes width (one_more s)
  kind_turn packsize text p s width o Kstring = variable packsize text p (aligned p width (size_of o) s (one_more s))
  kind_turn packsize text p s width o Kzstr = variable packsize text p (goes width (one_more s))
  kind_turn packsize text p s width o Kpadding = goes width s
  kind_turn packsize text p s width o Kpaddalign = align_to_next text p s (getoption text (p + 1))
  kind_turn packsize text p s width o Knop = goes width (pack_state s.values (maxalign o s.alignment))

  unfoldable pub option_turn : Bool → List ℕ → ℕ → PackState → OptionRead → Turn PackState Answer
  option_turn packsize text p s (option o width) = kind_turn packsize text p s width o (kind_of o.letter)
  option_turn packsize text p s (fault answer) = stop answer

  unfoldable pub pack_turn : Bool → List ℕ → ℕ → PackState → Turn PackState Answer
  pack_turn packsize text p s = option_turn packsize text p s (getoption text p)

unfoldable pub pack_end : ℕ → PackState → Answer
pack_end p s = accepted s.values

-- initheader: the maximum alignment is 1
unfoldable pub pack_walk : Bool → List ℕ → Answer
pack_walk packsize text = walk_from (pack_turn luck_size packsize text) pack_end (length text) 0 (pack_state 0 1)

unfoldable pub check_pack : ℕ → Bool → List ℕ → Answer
check_pack version packsize text = check_text version text (pack_walk packsize text)

-- ---- The options as a list. No contract rests on it: `counts_values` of proofs/PackOptions.antt says the count by it

-- an option and its place
pub record PlacedOption : Type 0 where
  pub place : ℕ
  pub read : PackOption

abbrev pub placed_option : ℕ → PackOption → PlacedOption
placed_option place read = record { place = place; read = read }

-- the options from p on, at most this many; the first fault ends the list, as the end of the text does
unfoldable pub options_up_to : ℕ → List ℕ → ℕ → List PlacedOption
options_up_to zero text p = []
options_up_to (suc n) text p =
    elim (getoption text p) [ option o width ↦ placed_option p o ∷ options_up_to n text (p + width) | fault answer ↦ [] ]

-- all of them, from p on; the option that an `X` reads stands behind it. The count of an accepted format is that of the
-- options in this list that have a value and are not read by an `X` (`counts_values` of proofs/PackOptions.antt)
unfoldable pub options_from : List ℕ → ℕ → List PlacedOption
options_from text p = options_up_to (length text - p) text p

unfoldable pub options : List ℕ → List PlacedOption
options text = options_from text 0
