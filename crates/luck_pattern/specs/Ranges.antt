-- The words of what is promised of the test of ranges (F-10 of document 02): the first reversed range of an item, as
-- the check finds it; whether an item has one, as the matching reads it; the items that the check passes; and the first
-- reversed range of a pattern.
-- Assumes nothing.
use Rattle.std.specs.Prelude.{ℕ, ◌+◌, ◌≤◌, ◌<◌, ◌≡◌, Bool, true, false, length, eqb, Option, None, Some}
use Prim.Native.Char.{code}
use mathlib.Core.List.{List, [], ◌∷◌, Memᴰ}
use Rattle.luck_text.specs.Bytes.{when◌then◌else◌, byte_at}
use Rattle.luck_text.specs.Walk.{goes}
use Rattle.luck_pattern.specs.Reading.{
  Head,
  at_open,
  at_close,
  at_percent,
  at_set,
  at_other,
  head_of,
  Escape,
  esc_digit,
  esc_balance,
  esc_frontier,
  esc_other,
  esc_end,
  escape_at,
  SetEnd,
  closes_at,
  cut_at,
  unclosed,
  first_member,
  set_end,
}
use Rattle.luck_pattern.specs.Elements.{Element, range, is_reversed, first_reversed}
use Rattle.luck_pattern.specs.Pattern.{pattern_turn}
use Rattle.luck_pattern.specs.Items.{
  Single,
  any,
  class,
  among_set,
  byte,
  Item,
  start_capture,
  position_capture,
  end_capture,
  end_anchor,
  balance,
  frontier,
  back_reference,
  single,
  raises,
  Read,
  last,
  item,
}

-- ---- The reversed range of an item

unfoldable pub escape_set : List ℕ → ℕ → Escape → Option ℕ
escape_set pat p esc_end = None
escape_set pat p (esc_digit d) = None
escape_set pat p esc_balance = None
escape_set pat p esc_frontier = when eqb (byte_at pat (p + 2)) (code "[") then Some (p + 2) else None
escape_set pat p esc_other = None

unfoldable pub head_set : List ℕ → ℕ → Head → Option ℕ
head_set pat p at_open = None
head_set pat p at_close = None
head_set pat p at_percent = escape_set pat p (escape_at pat (p + 1))
head_set pat p at_set = Some p
head_set pat p at_other = None

-- where the `[` of the item at place p stands, if it is a set or a frontier
unfoldable pub item_set : List ℕ → ℕ → Option ℕ
item_set pat p = head_set pat p (head_of (byte_at pat p))

unfoldable pub reversed_before : List ℕ → ℕ → SetEnd → Option ℕ
reversed_before pat p (closes_at e) = first_reversed pat e (first_member pat p)
reversed_before pat p (cut_at e) = None
reversed_before pat p unclosed = None

unfoldable pub reversed_set : List ℕ → Option ℕ → Option ℕ
reversed_set pat None = None
reversed_set pat (Some p) = reversed_before pat p (set_end pat p)

-- the first reversed range of the item at place p, if it is a set or a frontier whose set closes
unfoldable pub item_reversed : List ℕ → ℕ → Option ℕ
item_reversed pat p = reversed_set pat (item_set pat p)

-- no range of a list of elements is reversed: the left byte of each is at most the right one
abbrev pub Upwards : List Element → Type 0
Upwards elements = (left right : ℕ) → Memᴰ (range left right) elements → left ≤ right

-- nor any in the set of a single, of an item as the matching reads it, or of several
abbrev pub UpwardsSingle : Single → Type 0
UpwardsSingle any = Unit {0}
UpwardsSingle (class b) = Unit {0}
UpwardsSingle (among_set set) = Upwards set.elements
UpwardsSingle (byte b) = Unit {0}

abbrev pub UpwardsItem : Item → Type 0
UpwardsItem start_capture = Unit {0}
UpwardsItem position_capture = Unit {0}
UpwardsItem end_capture = Unit {0}
UpwardsItem end_anchor = Unit {0}
UpwardsItem (balance x y) = Unit {0}
UpwardsItem (frontier set) = Upwards set.elements
UpwardsItem (back_reference d) = Unit {0}
UpwardsItem (single x r) = UpwardsSingle x
UpwardsItem (raises kind) = Unit {0}

abbrev pub AllUpwards : List Item → Type 0
AllUpwards [] = Unit {0}
AllUpwards (i ∷ more) = UpwardsItem i × AllUpwards more

abbrev pub item_of : Read → Item
item_of (last i) = i
item_of (item i q) = i

-- a set's elements without its reversed ranges
unfoldable pub without_reversed : List Element → List Element
without_reversed [] = []
without_reversed (element ∷ more) =
    let rest = without_reversed more in
    when is_reversed element then rest else element ∷ rest

-- at place k stand three bytes of the text that a set can read as a reversed range
pub record RangeAt (pat : List ℕ) (k : ℕ) : Type 0 where
  pub inside : k + 2 < length pat
  pub hyphen : byte_at pat (k + 1) ≡ code "-"
  pub reversed : byte_at pat (k + 2) < byte_at pat k

-- ---- Of a pattern

-- the check, with or without the test, has found no fault in the items before place p, and the captures are then these
pub data Passed (ranges : Bool) (pat : List ℕ) : ℕ → List Bool → Type 0 where
  at_start : Passed ranges pat 0 []
  one_more : {p width : ℕ} {before after : List Bool} → Passed ranges pat p before → p < length pat
      → pattern_turn ranges pat p before ≡ goes width after
      → Passed ranges pat (p + width) after

-- the items before a place are passed with the test, so that none of them is at fault and none has a reversed range;
-- and the set of the item there closes, and its first reversed range stands at k
pub record FirstReversedSet (pat : List ℕ) (k : ℕ) : Type 0 where
  pub place : ℕ
  pub captures : List Bool
  pub passed : Passed true pat place captures
  pub in_text : place < length pat
  pub found : item_reversed pat place ≡ Some k

-- no item that the check comes to without the test has a reversed range
abbrev pub NoneReversed : List ℕ → Type 0
NoneReversed pat =
    (p : ℕ) (captures : List Bool) → Passed false pat p captures → p < length pat → item_reversed pat p ≡ None
