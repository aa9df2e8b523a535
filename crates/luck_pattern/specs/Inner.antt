-- What the inner functions of the check of patterns promise each other. No public contract rests on these.
-- Assumes nothing.
use Rattle.std.specs.Prelude.{
  ℕ,
  zero,
  suc,
  ◌/◌,
  ◌%◌,
  ◌<◌,
  ◌≤◌,
  Bool,
  false,
  List,
  [],
  ◌∷◌,
  ◌++◌,
  length,
  eqb,
  ltb,
  Option,
  None,
  Some,
  Result,
  Ok,
  Err,
}
use Rattle.luck_text.specs.Bytes.{when◌then◌else◌}
use Rattle.luck_answer.specs.Answer.{refusal}
use Rattle.luck_answer.specs.declared.format_pattern.PatternError.{PatternError}
use Rattle.luck_pattern.specs.Captures.{max_captures}
use Rattle.luck_pattern.specs.Pattern.{Scanned, past, fault}
use Rattle.luck_pattern.specs.declared.captures.Captures.{Captures}

-- the captures that a count and the code's word of open captures stand for: bit k is set while capture k, counted from
-- 0, is open
unfoldable pub flags_of_word : ℕ → ℕ → List Bool
flags_of_word zero word = []
flags_of_word (suc count) word = eqb (word % 2) 0 ∷ flags_of_word count (word / 2)

abbrev pub flags : Captures → List Bool
flags captures = flags_of_word captures.count captures.word

-- what opening or closing one has left, if that could be done
abbrev pub flags_left : Option Captures → Option (List Bool)
flags_left None = None
flags_left (Some captures) = Some (flags captures)

-- the captures with one more, the latest
unfoldable pub open_one : List Bool → Option (List Bool)
open_one captures = when ltb (length captures) max_captures then Some (captures ++ (false ∷ [])) else None

-- an escape or a set is read, up to the place after it or its fault
abbrev pub read_of : Result ℕ PatternError → Scanned
read_of (Ok q) = past q
read_of (Err e) = fault (refusal e)

-- the place after what was read lies behind its start and in the text
abbrev pub ScanWithin : Result ℕ PatternError → ℕ → ℕ → Type 0
ScanWithin (Ok q) p len = (p < q) × (q ≤ len)
ScanWithin (Err e) p len = Unit {0}
