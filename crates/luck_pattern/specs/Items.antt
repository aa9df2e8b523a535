-- The items of a pattern, as `match`, classEnd and matchbracketclass of lstrlib.c 5.4 read them (document 01, "The
-- trial"): what the trial runs. The check walks over the same pattern, and both go by Reading.antt for what stands at a
-- place.
-- Assumes nothing.
use Rattle.std.specs.Prelude.{ℕ, zero, suc, ◌+◌, ◌-◌, Bool, ◌&&◌, List, [], ◌∷◌, length, eqb, leb, ltb}
use Prim.Native.Char.{code}
use Rattle.luck_text.specs.Bytes.{when◌then◌else◌, byte_at}
use Rattle.luck_pattern.specs.Elements.{Element, elements_of}
use Rattle.luck_pattern.specs.Reading.{
  Head,
  at_open,
  at_close,
  at_percent,
  at_set,
  at_other,
  head_of,
  Escape,
  esc_digit,
  esc_balance,
  esc_frontier,
  esc_other,
  esc_end,
  escape_at,
  SetEnd,
  closes_at,
  cut_at,
  unclosed,
  first_member,
  set_end,
}

-- ---- Sets

pub record Set : Type 0 where
  pub complement : Bool  -- `[^`
  pub elements : List Element

-- the set from its `[` at place p to its closing `]` at place e
unfoldable pub set_of : List ℕ → ℕ → ℕ → Set
set_of pat p e =
    record { complement = eqb (byte_at pat (p + 1)) (code "^"); elements = elements_of pat e (first_member pat p) }

-- ---- Items

-- what one byte of the subject is tested for
pub data Single : Type 0 where
  any : Single  -- `.`
  class : ℕ → Single  -- `%` and a byte
  among_set : Set → Single
  byte : ℕ → Single

pub data Repeat : Type 0 where
  once optional star plus minus : Repeat  -- nothing, `?`, `*`, `+`, `-` after a single

pub data Item : Type 0 where
  start_capture : Item  -- `(`
  position_capture : Item  -- `()`
  end_capture : Item  -- `)`
  end_anchor : Item  -- `$`, last
  balance : ℕ → ℕ → Item  -- `%b` x y
  frontier : Set → Item  -- `%f` and a set
  back_reference : ℕ → Item  -- `%` and a digit
  single : Single → Repeat → Item
  raises : ℕ → Item  -- an error of this kind: Match.antt of lstr_item lists the kinds

-- what is read at a place: a last item, or an item and the place after it
pub data Read : Type 0 where
  last : Item → Read
  item : Item → ℕ → Read

unfoldable pub repeat_of : ℕ → Repeat
repeat_of b =
    when eqb b (code "?") then optional
    else when eqb b (code "*") then star
    else when eqb b (code "+") then plus
    else when eqb b (code "-") then minus else once

unfoldable pub repeat_width : Repeat → ℕ
repeat_width once = 0
repeat_width optional = 1
repeat_width star = 1
repeat_width plus = 1
repeat_width minus = 1

-- a single that ends before place q, where its repeat may stand
unfoldable pub repeated : Single → Repeat → ℕ → Read
repeated s r q = item (single s r) (q + repeat_width r)

unfoldable pub read_single : List ℕ → Single → ℕ → Read
read_single pat s q = repeated s (repeat_of (byte_at pat q)) q

-- the set whose `[` stands at p
unfoldable pub read_set : List ℕ → ℕ → SetEnd → Read
read_set pat p (closes_at e) = read_single pat (among_set (set_of pat p e)) (e + 1)
read_set pat p (cut_at e) = last (raises 2)
read_set pat p unclosed = last (raises 2)

unfoldable pub read_frontier : List ℕ → ℕ → SetEnd → Read
read_frontier pat p (closes_at e) = item (frontier (set_of pat p e)) (e + 1)
read_frontier pat p (cut_at e) = last (raises 2)
read_frontier pat p unclosed = last (raises 2)

-- the escape whose `%` stands at p
unfoldable pub read_escape : List ℕ → ℕ → Escape → Read
read_escape pat p esc_end = last (raises 1)
read_escape pat p (esc_digit d) = item (back_reference d) (p + 2)
read_escape pat p esc_balance =
    when ltb (p + 3) (length pat) then item (balance (byte_at pat (p + 2)) (byte_at pat (p + 3))) (p + 4)
    else last (raises 4)
read_escape pat p esc_frontier =
    when eqb (byte_at pat (p + 2)) (code "[") then read_frontier pat (p + 2) (set_end pat (p + 2)) else last (raises 3)
read_escape pat p esc_other = read_single pat (class (byte_at pat (p + 1))) (p + 2)

unfoldable pub read_byte : List ℕ → ℕ → Read
read_byte pat p =
    let b = byte_at pat p in
    when eqb b (code "$") && eqb (p + 1) (length pat) then last end_anchor
    else when eqb b (code ".") then read_single pat any (p + 1) else read_single pat (byte b) (p + 1)

unfoldable pub read_head : List ℕ → ℕ → Head → Read
read_head pat p at_open =
    when eqb (byte_at pat (p + 1)) (code ")") then item position_capture (p + 2) else item start_capture (p + 1)
read_head pat p at_close = item end_capture (p + 1)
read_head pat p at_percent = read_escape pat p (escape_at pat (p + 1))
read_head pat p at_set = read_set pat p (set_end pat p)
read_head pat p at_other = read_byte pat p

-- the item at place p, where a byte stands
unfoldable pub read_item : List ℕ → ℕ → Read
read_item pat p = read_head pat p (head_of (byte_at pat p))

unfoldable pub then_items : (ℕ → List Item) → Read → List Item
then_items rest (last i) = i ∷ []
then_items rest (item i q) = i ∷ rest q

-- the items from place p on; n is at least the bytes left (`items_at` of lstr_item takes it away)
unfoldable pub items_from : List ℕ → ℕ → ℕ → List Item
items_from pat zero p = []
items_from pat (suc n) p =
    let here = then_items (items_from pat n) (read_item pat p) in
    when leb (length pat) p then [] else here

unfoldable pub items : List ℕ → ℕ → List Item
items pat p = items_from pat (length pat - p) p
