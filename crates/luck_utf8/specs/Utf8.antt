-- UTF-8 as RFC 3629 has it: well-formed sequences, and the character at a place. The bytes of a code point, as RFC 2279
-- has them: those of a character are the same in both.
-- Assumes nothing.
use Rattle.std.specs.Prelude.{ℕ, zero, suc, ◌+◌, ◌*◌, ◌-◌, ◌/◌, ◌%◌, Bool, true}
use Rattle.std.specs.Prelude.{◌&&◌, ◌||◌, List, [], ◌∷◌, length, eqb, leb, ltb, Option, None}
use Rattle.std.specs.Prelude.{Some, Result, Ok, Err}
use Rattle.luck_text.specs.Bytes.{when◌then◌else◌, byte_at, between}
use Rattle.luck_text.specs.Walk.{Turn, stop, goes, walk_from}
use Rattle.luck_utf8.specs.declared.utf8.Char.{Char}
use Rattle.luck_utf8.specs.declared.utf8.IllFormed.{IllFormed}

pub record Range : Type 0 where
  pub low : ℕ
  pub high : ℕ

abbrev pub ◌to◌ : ℕ → ℕ → Range
◌to◌ a b = record { low = a; high = b }

-- a row of the grammar of RFC 3629, section 4: the first byte's range, and those of the bytes that follow it
pub record Row : Type 0 where
  pub lead : Range
  pub tails : List Range

abbrev pub row : Range → List Range → Row
row lead tails = record { lead = lead; tails = tails }

abbrev pub tail : Range
tail = ◌to◌ 0x80 0xBF

unfoldable pub rfc3629 : List Row
rfc3629 =
    row (◌to◌ 0x00 0x7F) [] ∷
    row (◌to◌ 0xC2 0xDF) (tail ∷ []) ∷
    row (◌to◌ 0xE0 0xE0) (◌to◌ 0xA0 0xBF ∷ tail ∷ []) ∷
    row (◌to◌ 0xE1 0xEC) (tail ∷ tail ∷ []) ∷
    row (◌to◌ 0xED 0xED) (◌to◌ 0x80 0x9F ∷ tail ∷ []) ∷
    row (◌to◌ 0xEE 0xEF) (tail ∷ tail ∷ []) ∷
    row (◌to◌ 0xF0 0xF0) (◌to◌ 0x90 0xBF ∷ tail ∷ tail ∷ []) ∷
    row (◌to◌ 0xF1 0xF3) (tail ∷ tail ∷ tail ∷ []) ∷
    row (◌to◌ 0xF4 0xF4) (◌to◌ 0x80 0x8F ∷ tail ∷ tail ∷ []) ∷ []

abbrev pub in_range : Range → ℕ → Bool
in_range r b = between r.low r.high b

-- the ranges that follow a first byte: those of its row
unfoldable pub tails_of : List Row → ℕ → Option (List Range)
tails_of [] b = None
tails_of (r ∷ rows) b = let more = tails_of rows b in when in_range r.lead b then Some r.tails else more

-- the bytes from place p on are there, one in each range
unfoldable pub follow : List ℕ → ℕ → List Range → Bool
follow text p [] = true
follow text p (r ∷ ranges) = ltb p (length text) && in_range r (byte_at text p) && follow text (p + 1) ranges

unfoldable pub width_by : List ℕ → ℕ → Option (List Range) → ℕ
width_by text p None = 0
width_by text p (Some tails) = when follow text (p + 1) tails then suc (length tails) else 0

-- how many bytes the well-formed sequence at place p has; 0 where it is ill-formed or the text ends there
unfoldable pub sequence : List ℕ → ℕ → ℕ
sequence text p = when ltb p (length text) then width_by text p (tails_of rfc3629 (byte_at text p)) else 0

-- the place of the first ill-formed sequence, none where the whole text is well-formed
unfoldable pub sequence_at : List ℕ → ℕ → Unit {0} → Turn (Unit {0}) (Option ℕ)
sequence_at text p u = when eqb (sequence text p) 0 then stop (Some p) else goes (sequence text p) tt

unfoldable pub none_ill_formed : ℕ → Unit {0} → Option ℕ
none_ill_formed p u = None

unfoldable pub ill_formed : List ℕ → Option ℕ
ill_formed text = walk_from (sequence_at text) none_ill_formed (length text) 0 tt

abbrev pub place_of : Result (Unit {0}) IllFormed → Option ℕ
place_of (Ok u) = None
place_of (Err e) = Some e.at

-- RFC 3629, section 3: the bits of a code point, six to each byte after the first
unfoldable pub code_point : List ℕ → ℕ → ℕ → ℕ
code_point text p width =
    let b0 = byte_at text p in
    let b1 = byte_at text (p + 1) - 0x80 in
    let b2 = byte_at text (p + 2) - 0x80 in
    let b3 = byte_at text (p + 3) - 0x80 in
    when eqb width 1 then b0
    else when eqb width 2 then (b0 - 0xC0) * 0x40 + b1
    else when eqb width 3 then ((b0 - 0xE0) * 0x40 + b1) * 0x40 + b2
    else (((b0 - 0xF0) * 0x40 + b1) * 0x40 + b2) * 0x40 + b3

-- the character at a place; at the end, inside a character and at an ill-formed sequence U+FFFD of width 1, as in luck
-- (peek_char, literal_error)
unfoldable pub char_at : List ℕ → ℕ → Char
char_at text p =
    let width = sequence text p in
    when eqb width 0 then record { code = 0xFFFD; width = 1 } else record { code = code_point text p width; width = width }

-- a code point that has a character: no surrogate, and at most 10FFFF
unfoldable pub is_char : ℕ → Bool
is_char c = ltb c 0xD800 || between 0xE000 0x10FFFF c

-- A row of the table in section 2 of RFC 2279, the original scheme, of which RFC 3629 keeps the characters: the largest
-- code point that is written so, the bits that mark its first byte, and how many bytes of six bits follow.
pub record Form : Type 0 where
  pub last : ℕ
  pub mark : ℕ
  pub following : ℕ

abbrev pub up_to : ℕ → ℕ → ℕ → Form
up_to last mark following = record { last = last; mark = mark; following = following }

unfoldable pub rfc2279 : List Form
rfc2279 =
    up_to 0x7F 0x00 0 ∷
    up_to 0x7FF 0xC0 1 ∷
    up_to 0xFFFF 0xE0 2 ∷
    up_to 0x1F_FFFF 0xF0 3 ∷
    up_to 0x3FF_FFFF 0xF8 4 ∷
    up_to 0x7FFF_FFFF 0xFC 5 ∷ []

-- the largest code point that the scheme writes
abbrev pub last_code : ℕ
last_code = 0x7FFF_FFFF

-- the bits of c in a marked first byte and n bytes of six bits each, the lowest in the last; then what follows them
unfoldable pub six_bits : ℕ → ℕ → ℕ → List ℕ → List ℕ
six_bits mark zero c after = (mark + c) ∷ after
six_bits mark (suc n) c after = six_bits mark n (c / 0x40) ((0x80 + c % 0x40) ∷ after)

-- by the first row that has the code point
unfoldable pub bytes_by : List Form → ℕ → List ℕ
bytes_by [] c = []
bytes_by (r ∷ rows) c =
    let more = bytes_by rows c in
    when leb c r.last then six_bits r.mark r.following c [] else more

-- the bytes of a code point of at most 7FFFFFFF; a larger number has none
unfoldable pub utf8_bytes : ℕ → List ℕ
utf8_bytes c = bytes_by rfc2279 c
