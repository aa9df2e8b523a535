-- Which patterns are accepted (validate_lua_pattern, scan_escape and scan_set of luck; document 01, "Pattern, then
-- replacement"; F-10 of document 02), by what stands at each place (Reading.antt). luck passes over a whole UTF-8
-- character where this passes over one byte: the bytes after a character's first are 128 or more, so none of them
-- begins an item or ends a set, and the two read the same items. Only the test of ranges, which luck lacks, compares
-- them.
-- Assumes nothing.
use Rattle.std.specs.Prelude.{ℕ, ◌+◌, ◌-◌, Bool, true, false, ◌&&◌, List, [], ◌∷◌, ◌++◌, length, eqb, ltb, Option, None, Some}
use Prim.Native.Char.{code}
use Rattle.luck_text.specs.Bytes.{when◌then◌else◌, byte_at}
use Rattle.luck_text.specs.Walk.{Turn, stop, goes, walk_from}
use Rattle.luck_answer.specs.Answer.{Answer, accepted, refused, refused_with, check_text}
use Rattle.luck_pattern.specs.Reading.{
  Head,
  at_open,
  at_close,
  at_percent,
  at_set,
  at_other,
  head_of,
  Escape,
  esc_digit,
  esc_balance,
  esc_frontier,
  esc_other,
  esc_end,
  escape_at,
  SetEnd,
  closes_at,
  cut_at,
  unclosed,
  first_member,
  set_end,
}
use Rattle.luck_pattern.specs.Elements.{first_reversed}
use Rattle.luck_pattern.specs.Captures.{max_captures, close_latest, is_closed, all_closed}

-- a lone `]` ends the pattern where the set's first member is due
unfoldable pub is_empty_set : List ℕ → ℕ → Bool
is_empty_set pat p = let first = first_member pat p in eqb (byte_at pat first) (code "]") && eqb (first + 1) (length pat)

-- an escape or a set was read, and the next item starts at a place; or a fault was found
pub data Scanned : Type 0 where
  past : ℕ → Scanned
  fault : Answer → Scanned

unfoldable pub onward : ℕ → List Bool → Scanned → Turn (List Bool) Answer
onward p captures (past q) = goes (q - p) captures
onward p captures (fault answer) = stop answer

unfoldable pub after_close : ℕ → Option (List Bool) → Turn (List Bool) Answer
after_close p None = stop (refused 11 p)
after_close p (Some captures) = goes 1 captures

unfoldable pub pattern_end : List ℕ → ℕ → List Bool → Answer
pattern_end pat p captures = when all_closed captures then accepted (length captures) else refused 11 (length pat)

-- a set that closes at place e is passed over, unless it has a reversed range
unfoldable pub closed_as : ℕ → Option ℕ → Scanned
closed_as e None = past (e + 1)
closed_as e (Some left) = fault (refused 39 left)

module _ (ranges : Bool) (pat : List ℕ) where
  -- the first reversed range of the set from its `[` at place p to its closing `]` at place e; none where ranges are
  -- not tested
  unfoldable pub reversed_of : ℕ → ℕ → Option ℕ
  reversed_of p e = when ranges then first_reversed pat e (first_member pat p) else None

  unfoldable pub set_as : ℕ → SetEnd → Scanned
  set_as p (closes_at e) = closed_as e (reversed_of p e)
  set_as p (cut_at e) = fault (refused 1 e)
  set_as p unclosed = fault (refused (when is_empty_set pat p then 9 else 8) p)

  -- the set whose `[` stands at p
  unfoldable pub set_read : ℕ → Scanned
  set_read p = set_as p (set_end pat p)

  -- the escape whose `%` stands at p, after these captures
  unfoldable pub escape_as : ℕ → List Bool → Escape → Scanned
  escape_as p captures esc_end = fault (refused 1 p)
  escape_as p captures (esc_digit d) = when is_closed captures d then past (p + 2) else fault (refused 13 (p + 1))
  escape_as p captures esc_balance = when ltb (p + 3) (length pat) then past (p + 4) else fault (refused 1 p)
  escape_as p captures esc_frontier =
      let set = set_read (p + 2) in
      when eqb (byte_at pat (p + 2)) (code "[") then set else fault (refused_with 10 p (code "f"))
  escape_as p captures esc_other = past (p + 2)

  unfoldable pub escape_read : ℕ → List Bool → Scanned
  escape_read p captures = escape_as p captures (escape_at pat (p + 1))

  -- what is passed over at place p, after these captures: an item, or the repeat behind one
  unfoldable pub head_turn : ℕ → List Bool → Head → Turn (List Bool) Answer
  head_turn p captures at_open =
      when ltb (length captures) max_captures then goes 1 (captures ++ (false ∷ [])) else stop (refused 12 p)
  head_turn p captures at_close = after_close p (close_latest captures)
  head_turn p captures at_percent = onward p captures (escape_read p captures)
  head_turn p captures at_set = onward p captures (set_read p)
  head_turn p captures at_other = goes 1 captures

  unfoldable pub pattern_turn : ℕ → List Bool → Turn (List Bool) Answer
  pattern_turn p captures = head_turn p captures (head_of (byte_at pat p))

  unfoldable pub pattern_walk : Answer
  pattern_walk = walk_from pattern_turn (pattern_end pat) (length pat) 0 []

-- the check with or without its test of ranges
unfoldable pub check_pattern_as : Bool → ℕ → List ℕ → Answer
check_pattern_as ranges version pat = check_text version pat (pattern_walk ranges pat)

-- the check, with that test (F-10 of document 02)
unfoldable pub check_pattern : ℕ → List ℕ → Answer
check_pattern version pat = check_pattern_as true version pat
