-- What the inner functions of the check of pack formats promise each other. No public contract rests on these.
-- Assumes nothing.
use Rattle.std.specs.Prelude.{ℕ, ◌+◌, Bool, true, false, List, eqb, Option, None, Some, Result, Ok, Err}
use Prim.Native.Char.{code}
use Rattle.luck_text.specs.Bytes.{when◌then◌else◌, among}
use Rattle.luck_text.specs.Walk.{Turn, stop, goes}
use Rattle.luck_answer.specs.Answer.{Answer, refusal}
use Rattle.luck_answer.specs.declared.format_pattern.PatternError.{PatternError}
use Rattle.luck_pack.specs.Pack as pack
use Rattle.luck_pack.specs.declared.pack.PackOption.{PackOption}
use Rattle.luck_pack.specs.declared.pack.PackOption.TheVariants as option
use Rattle.luck_pack.specs.declared.pack.Size.{Size}
use Rattle.luck_pack.specs.declared.pack.Read.{Read}
use Rattle.luck_pack.specs.declared.pack.Turn.{Turn as PackTurn}

-- what the code keeps of an option: its size, or the maximum alignment that it sets
unfoldable pub kept_as : pack.KOption → pack.PackOption → PackOption
kept_as pack.Kint o = option.Sized (pack.luck_size o)
kept_as pack.Kuint o = option.Sized (pack.luck_size o)
kept_as pack.Kfloat o = option.Sized (pack.luck_size o)
kept_as pack.Knumber o = option.Sized (pack.luck_size o)
kept_as pack.Kdouble o = option.Sized (pack.luck_size o)
kept_as pack.Kchar o = option.FixedString
kept_as pack.Kstring o = option.Counted (pack.luck_size o)
kept_as pack.Kzstr o = option.ZeroTerminated
kept_as pack.Kpadding o = option.Padding
kept_as pack.Kpaddalign o = option.AlignToNext
kept_as pack.Knop o =
    when eqb o.letter (code "!") then option.SetMaxAlignment (pack.number_or 8 o.number) else option.Control

unfoldable pub kept : pack.PackOption → PackOption
kept o = kept_as (pack.kind_of o.letter) o

-- what the code keeps of a reading
pub data Kept : Type 0 where
  keeps : PackOption → ℕ → Kept
  faults : Answer → Kept

unfoldable pub kept_read : pack.OptionRead → Kept
kept_read (pack.option o width) = keeps (kept o) width
kept_read (pack.fault answer) = faults answer

-- what it does with that
abbrev pub kept_alignment : PackOption → Option ℕ
kept_alignment (option.Sized n) = Some n
kept_alignment (option.Counted n) = Some n
kept_alignment option.ZeroTerminated = None
kept_alignment option.FixedString = None
kept_alignment option.Padding = Some 1
kept_alignment option.AlignToNext = None
kept_alignment (option.SetMaxAlignment n) = None
kept_alignment option.Control = None

unfoldable pub kept_turn : Bool → List ℕ → ℕ → pack.PackState → Kept → Turn pack.PackState Answer
kept_turn packsize text p s (keeps (option.Sized n) width) = pack.aligned p width n s (pack.one_more s)
kept_turn packsize text p s (keeps (option.Counted n) width) =
    pack.variable packsize text p (pack.aligned p width n s (pack.one_more s))
kept_turn packsize text p s (keeps option.ZeroTerminated width) =
    pack.variable packsize text p (goes width (pack.one_more s))
kept_turn packsize text p s (keeps option.FixedString width) = goes width (pack.one_more s)
kept_turn packsize text p s (keeps option.Padding width) = goes width s
kept_turn packsize text p s (keeps option.AlignToNext width) =
    pack.align_to_next pack.luck_size text p s (pack.getoption text (p + 1))
kept_turn packsize text p s (keeps (option.SetMaxAlignment n) width) = goes width (pack.pack_state s.values n)
kept_turn packsize text p s (keeps option.Control width) = goes width s
kept_turn packsize text p s (faults answer) = stop answer

-- the option of a letter with a number that was read for it
abbrev pub size_read : ℕ → Result Size PatternError → pack.OptionRead
size_read letter (Ok s) = pack.option (pack.pack_option letter s.number) s.width
size_read letter (Err e) = pack.fault (refusal e)

-- a letter without a number
unfoldable pub kept_plain : ℕ → Option PackOption
kept_plain letter = when among letter pack.bare_letters then Some (kept (pack.pack_option letter None)) else None

abbrev pub option_read : Result Read PatternError → Kept
option_read (Ok r) = keeps r.option r.width
option_read (Err e) = faults (refusal e)

-- the state after an option with or without a value
abbrev pub with_value : Bool → ℕ → ℕ → pack.PackState
with_value true values largest = pack.pack_state (values + 1) largest
with_value false values largest = pack.pack_state values largest

abbrev pub pack_turn_of : ℕ → Result PackTurn PatternError → Turn pack.PackState Answer
pack_turn_of values (Ok t) = goes t.width (with_value t.has_value values t.alignment)
pack_turn_of values (Err e) = stop (refusal e)
