-- What the inner functions of the check of formats promise each other. No public contract rests on these.
-- Assumes nothing.
use Rattle.std.specs.Prelude.{ℕ, ◌+◌, ◌-◌, Bool, ◌&&◌, List, drop, eqb, ltb, Result, Ok, Err}
use Prim.Native.Char.{code}
use Rattle.luck_token.specs.declared.version.Rules.{Rules}
use Rattle.luck_text.specs.Bytes.{when◌then◌else◌, is_digit, run}
use Rattle.luck_text.specs.Walk.{Turn, stop, goes}
use Rattle.luck_answer.specs.Answer.{Answer, refusal}
use Rattle.luck_answer.specs.declared.format_pattern.PatternError.{PatternError}
use Rattle.luck_format.specs.Format as format

-- the place after the modifiers, or a fault in them
abbrev pub modifiers_of : Result ℕ PatternError → format.Modifiers
modifiers_of (Ok q) = format.end_at q
modifiers_of (Err e) = format.fault (refusal e)

-- at most two digits at p, or this fault
unfoldable pub two_digits : List ℕ → ℕ → PatternError → format.Modifiers
two_digits text p e =
    let count = run is_digit (drop p text) in
    when ltb 2 count then format.fault (refusal e) else format.end_at (p + count)

-- Luau's `*`
abbrev pub is_star : Rules → ℕ → Bool
is_star rules b = eqb b (code "*") && rules.star_format

-- the walk's turn at a specifier that begins at p, from the specifiers so far; the place is the one after it
abbrev pub turn_of : ℕ → ℕ → Result ℕ PatternError → Turn ℕ Answer
turn_of p count (Ok after) = goes (after - p) (count + 1)
turn_of p count (Err e) = stop (refusal e)
