-- What stands at a place of a pattern, as `match` (document 01 calls it do_match) and classEnd of lstrlib.c 5.4 read
-- it: the byte there, the byte after a `%`, the members of a set and where it ends. The check (Pattern.antt) and the
-- items that a trial runs (Items.antt) both go by it. The members of a set are what classEnd steps over to find its
-- end; the elements that matchbracketclass tests for are in Elements.antt, and in `[!-%%g]` the two differ.
-- Assumes nothing.
use Rattle.std.specs.Prelude.{ℕ, ◌+◌, ◌-◌, Bool, true, false, not, ◌&&◌, List, length, eqb, ltb}
use Prim.Native.Char.{code}
use Rattle.luck_text.specs.Bytes.{when◌then◌else◌, byte_at, is_digit}
use Rattle.luck_text.specs.Walk.{Turn, stop, goes, walk_from}

-- the switch on the byte at a place
pub data Head : Type 0 where
  at_open at_close at_percent at_set at_other : Head

unfoldable pub head_of : ℕ → Head
head_of b =
    when eqb b (code "(") then at_open
    else when eqb b (code ")") then at_close
    else when eqb b (code "%") then at_percent
    else when eqb b (code "[") then at_set else at_other

-- the switch on the byte after a `%`
pub data Escape : Type 0 where
  esc_digit : ℕ → Escape  -- a back-reference
  esc_balance esc_frontier esc_other esc_end : Escape

unfoldable pub escape_of : ℕ → Escape
escape_of b =
    when is_digit b then esc_digit (b - code "0")
    else when eqb b (code "b") then esc_balance
    else when eqb b (code "f") then esc_frontier else esc_other

unfoldable pub escape_at : List ℕ → ℕ → Escape
escape_at pat p = when ltb p (length pat) then escape_of (byte_at pat p) else esc_end

-- the switch on the byte at a place of a set: the first member is taken even if it is a `]`, and `%` takes one more
-- byte
pub data Member : Type 0 where
  closing_bracket escaped_member cut_escape byte_member : Member

unfoldable pub member_at : List ℕ → Bool → ℕ → Member
member_at pat first p =
    let escape = when ltb (p + 1) (length pat) then escaped_member else cut_escape in
    let member = when eqb (byte_at pat p) (code "%") then escape else byte_member in
    when eqb (byte_at pat p) (code "]") && not first then closing_bracket else member

-- where a set ends: at its closing `]`; nowhere, since a `%` at this place ends the pattern; or nowhere
pub data SetEnd : Type 0 where
  closes_at cut_at : ℕ → SetEnd
  unclosed : SetEnd

unfoldable pub member_by : Member → ℕ → Turn Bool SetEnd
member_by closing_bracket p = stop (closes_at p)
member_by escaped_member p = goes 2 false
member_by cut_escape p = stop (cut_at p)
member_by byte_member p = goes 1 false

unfoldable pub member_turn : List ℕ → ℕ → Bool → Turn Bool SetEnd
member_turn pat p first = member_by (member_at pat first p) p

unfoldable pub members_end : ℕ → Bool → SetEnd
members_end p first = unclosed

-- the place of the first member of the set whose `[` stands at p, after `[` or `[^`
unfoldable pub first_member : List ℕ → ℕ → ℕ
first_member pat p = when eqb (byte_at pat (p + 1)) (code "^") then p + 2 else p + 1

unfoldable pub set_end : List ℕ → ℕ → SetEnd
set_end pat p = walk_from (member_turn pat) members_end (length pat) (first_member pat p) true
