-- What the code of items, singles and captures promises the matching and the writing of a match. This crate is for the
-- trial only, and no contract of `gsub` rests on these.
-- Assumes nothing.
use Rattle.std.specs.Prelude.{ℕ, zero, suc, ◌+◌, ◌-◌, ◌<◌, ◌≤◌, ◌≡◌, Bool, Option, None, Some, Result, Ok, Err, IfOk}
use Rattle.std.specs.Prelude.{true, false, List, [], ◌∷◌, length, get_or, eqb}
use Prim.Native.Char.{code}
use Rattle.luck_text.specs.Bytes.{when◌then◌else◌, byte_at}
use Rattle.luck_pattern.specs.Reading.{SetEnd, closes_at, cut_at, unclosed}
use Rattle.luck_pattern.specs.Items.{
  Single,
  any,
  class,
  among_set,
  byte,
  Repeat,
  once,
  optional,
  star,
  plus,
  minus,
  Item,
  start_capture,
  position_capture,
  end_capture,
  end_anchor,
  balance,
  frontier,
  back_reference,
  single,
  raises,
  set_of,
  repeat_width,
  items,
}
use Rattle.lstr_item.specs.Match.{Capture, opened, position, closed, failed, raised, new_level, Rest, Reach, reached, spent}
use Rattle.lstr_item.specs.Errors.{kind_of}
use Rattle.lstr_item.specs.declared.error.LuaError.{LuaError}
use Rattle.lstr_item.specs.declared.single.Reached.{Reached}
use Rattle.lstr_item.specs.declared.single.Spent.{Spent}
use Rattle.lstr_item.specs.declared.capture.Pair.{Pair}
use Rattle.lstr_item.specs.declared.capture.Captures.{Captures}
use Rattle.lstr_item.specs.declared.item.Item.{Item as Read}
use Rattle.lstr_item.specs.declared.item.Item.TheVariants as read
use Rattle.lstr_item.specs.declared.item.Repeat.{Repeat as Repeated}
use Rattle.lstr_item.specs.declared.item.Repeat.TheVariants as coded

-- ---- Singles

-- the single from place p up to place e
unfoldable pub single_of : List ℕ → ℕ → ℕ → Single
single_of pat p e =
    let b = byte_at pat p in
    when eqb b (code ".") then any
    else when eqb b (code "%") then class (byte_at pat (p + 1))
    else when eqb b (code "[") then among_set (set_of pat p (e - 1)) else byte b

-- it lies in the pattern: a class has its byte, a set its brackets
pub record SingleIn (pat : List ℕ) (p e : ℕ) : Type 0 where
  pub some : p < e
  pub inside : e ≤ length pat
  pub escape : byte_at pat p ≡ code "%" → p + 1 < e
  pub set : byte_at pat p ≡ code "[" → p + 1 < e

abbrev pub reach_of : Result Reached Spent → Reach
reach_of (Ok r) = reached r.end r.steps
reach_of (Err r) = spent r.steps

abbrev pub ReachIn : Result Reached Spent → ℕ → ℕ → Type 0
ReachIn r s len = IfOk r (λ at. (s ≤ at.end) × (at.end ≤ len))

-- ---- Captures

-- CAP_UNFINISHED and CAP_POSITION of the code
abbrev pub unfinished : ℕ
unfinished = 0xFFFF_FFFF_FFFF_FFFF

abbrev pub positional : ℕ
positional = 0xFFFF_FFFF_FFFF_FFFE

unfoldable pub capture_of : ℕ → ℕ → Capture
capture_of start len =
    when eqb len unfinished then opened start
    else when eqb len positional then position start else closed start len

abbrev pub no_pair : Pair
no_pair = record { start = 0; len = 0 }

unfoldable pub pairs_of : ℕ → List Pair → List Capture
pairs_of zero pairs = []
pairs_of (suc n) [] = []
pairs_of (suc n) (q ∷ pairs) = capture_of q.start q.len ∷ pairs_of n pairs

abbrev pub captures_of : Captures → List Capture
captures_of captures = pairs_of captures.count captures.pairs

-- all of these pairs
unfoldable pub captures_in : List Pair → List Capture
captures_in [] = []
captures_in (q ∷ pairs) = capture_of q.start q.len ∷ captures_in pairs

-- they lie before place s: each starts there at the latest, and a closed one ends there at the latest
abbrev pub PairIn : ℕ → Pair → Type 0
PairIn s q = (q.start ≤ s) × (q.len < positional → q.start + q.len ≤ s)

pub record Sound (s : ℕ) (captures : Captures) : Type 0 where
  pub each : (i : ℕ) → i < captures.count → PairIn s (get_or captures.pairs i no_pair)

-- the same of the first n pairs that were kept
pub record KeptIn (s n : ℕ) (kept : List Pair) : Type 0 where
  pub few : n ≤ 32
  pub room : n ≤ length kept
  pub each : (i : ℕ) → i < n → PairIn s (get_or kept i no_pair)

-- the rest goes on with these captures, at a new level, or Lua raises an error
abbrev pub goes_on_as : Result Unit LuaError → Rest → Rest
goes_on_as (Ok _) rest s l cs u = new_level l u (λ m. rest s m cs u)
goes_on_as (Err e) rest s l cs u = raised (kind_of e) u

abbrev pub held_as : Result (Option ℕ) LuaError → Rest → Rest
held_as (Err e) rest s l cs u = raised (kind_of e) u
held_as (Ok None) rest s l cs u = failed u
held_as (Ok (Some n)) rest s l cs u = rest (s + n) l cs u

abbrev pub HeldIn : Result (Option ℕ) LuaError → ℕ → ℕ → Type 0
HeldIn (Err e) s len = Unit {0}
HeldIn (Ok None) s len = Unit {0}
HeldIn (Ok (Some n)) s len = s + n ≤ len

-- ---- Items

-- the place of the closing `]`
abbrev pub closing_of : SetEnd → Option ℕ
closing_of (closes_at e) = Some e
closing_of (cut_at e) = None
closing_of unclosed = None

-- what stands at place p
abbrev pub AtSet : List ℕ → ℕ → Type 0
AtSet pat p = (p < length pat) × (byte_at pat p ≡ code "[")

abbrev pub AtEscape : List ℕ → ℕ → Type 0
AtEscape pat p = (p < length pat) × (byte_at pat p ≡ code "%")

abbrev pub AtFrontier : List ℕ → ℕ → Type 0
AtFrontier pat p = (p + 1 < length pat) × (byte_at pat p ≡ code "%") × (byte_at pat (p + 1) ≡ code "f")

-- the code's repeat, and back
abbrev pub repeat_as : Repeated → Repeat
repeat_as coded.Once = once
repeat_as coded.Optional = optional
repeat_as coded.Star = star
repeat_as coded.Plus = plus
repeat_as coded.Minus = minus

abbrev pub repeat_in : Repeat → Repeated
repeat_in once = coded.Once
repeat_in optional = coded.Optional
repeat_in star = coded.Star
repeat_in plus = coded.Plus
repeat_in minus = coded.Minus

abbrev pub is_once : Repeat → Bool
is_once once = true
is_once optional = false
is_once star = false
is_once plus = false
is_once minus = false

-- a single that has to fit is not passed over
abbrev pub has_to_fit : Repeat → Bool
has_to_fit once = true
has_to_fit optional = false
has_to_fit star = false
has_to_fit plus = true
has_to_fit minus = false

-- `*` and `+` take as many bytes as they can
abbrev pub is_greedy : Repeat → Bool
is_greedy once = false
is_greedy optional = false
is_greedy star = true
is_greedy plus = true
is_greedy minus = false

-- the code's item for a single that ends before place e
abbrev pub repeat_read : ℕ → Repeat → Read
repeat_read e k = read.Single e (repeat_in k)

-- the items from place p on are this one and those from place q on
pub record Then (pat : List ℕ) (p : ℕ) (i : Item) (q : ℕ) : Type 0 where
  pub is : items pat p ≡ i ∷ items pat q
  pub further : p < q
  pub inside : q ≤ length pat

-- a single from place p up to place e, and its repeat
pub record Single-then (pat : List ℕ) (p e : ℕ) (k : Repeat) : Type 0 where
  pub on : Then pat p (single (single_of pat p e) k) (e + repeat_width k)
  pub single : SingleIn pat p e

abbrev pub ItemAt : List ℕ → ℕ → Read → Type 0
ItemAt pat p read.End = items pat p ≡ []
ItemAt pat p read.EndAnchor = items pat p ≡ end_anchor ∷ []
ItemAt pat p (read.Raises error) = items pat p ≡ raises (kind_of error) ∷ []
ItemAt pat p (read.StartCapture q) = Then pat p start_capture q
ItemAt pat p (read.PositionCapture q) = Then pat p position_capture q
ItemAt pat p (read.EndCapture q) = Then pat p end_capture q
ItemAt pat p (read.BackReference d q) = Then pat p (back_reference d) q
ItemAt pat p (read.Single e k) = Single-then pat p e (repeat_as k)
ItemAt pat p (read.Balance x y q) = Then pat p (balance x y) q
ItemAt pat p (read.Frontier o q) = Then pat p (frontier (set_of pat o (q - 1))) q × (o + 1 < q)
