-- What the inner functions of the decoder promise each other. No public contract rests on these.
-- Assumes nothing.
use Rattle.std.specs.Prelude.{ℕ, ◌+◌, ◌≤◌, ◌≡◌, Bool, true, false, not, ◌&&◌, List, [], ◌∷◌, length, eqb}
use Rattle.std.specs.Prelude.{Option, None, Some}
use Prim.Native.Char.{code}
use Rattle.luck_text.specs.Bytes.{byte_at, in_front}
use Rattle.luck_utf8.specs.Utf8.{last_code, utf8_bytes}
use Rattle.luck_token.specs.Literal.{LiteralPiece, piece, malformed, simple_escape}
use Rattle.luck_token.specs.declared.string.Piece.{Piece as Found}
use Rattle.luck_token.specs.declared.string.Piece.TheVariants.{Simple, Byte, Character, Nothing}

-- the code's piece
abbrev pub piece_of : Option Found → LiteralPiece
piece_of (Some (Simple e)) = piece (simple_escape e ∷ []) 2
piece_of (Some (Byte b width)) = piece (b ∷ []) width
piece_of (Some (Character c width)) = piece (utf8_bytes c) width
piece_of (Some (Nothing width)) = piece [] width
piece_of None = malformed

-- a piece of at least this many bytes lies in the text, at place p
abbrev pub LiesInText : ℕ → ℕ → ℕ → ℕ → Type 0
LiesInText least width p len = (least ≤ width) × (p + width ≤ len)

abbrev pub Inside : Option Found → ℕ → ℕ → Type 0
Inside (Some (Simple e)) p len = LiesInText 1 2 p len
Inside (Some (Byte b width)) p len = LiesInText 1 width p len
Inside (Some (Character c width)) p len = (c ≤ last_code) × (length (utf8_bytes c) ≤ width) × LiesInText 1 width p len
Inside (Some (Nothing width)) p len = LiesInText 1 width p len
Inside None p len = Unit {0}

-- the code's piece is the one that stands at place p, and lies in the text
pub record IsPiece (wanted : LiteralPiece) (body : List ℕ) (p : ℕ) (found : Option Found) : Type 0 where
  pub is : piece_of found ≡ wanted
  pub inside : Inside found p (length body)

abbrev pub size_of : Option (List ℕ) → Option ℕ
size_of None = None
size_of (Some bytes) = Some (length bytes)

-- where this holds the byte at place p is a piece by itself, in every version: in a long string it is no CR and no LF
-- before a CR (a lone LF stands for itself), in a short one no backslash
abbrev pub plain : Bool → List ℕ → ℕ → Bool
plain true body p =
    let here = byte_at body p in
    let next = byte_at body (p + 1) in
    not (eqb here (code "\r")) && not (eqb here (code "\n") && eqb next (code "\r"))
plain false body p = not (eqb (byte_at body p) (code "\\"))

-- a value has no more bytes than its body
abbrev pub SizeWithin : Option ℕ → ℕ → Type 0
SizeWithin (Some n) len = n ≤ len
SizeWithin None len = Unit {0}

-- a value that fits stands at the front of the output, and behind it what was there
abbrev pub Written : Option (List ℕ) → List ℕ → List ℕ → Type 0
Written None old new = Unit {0}
Written (Some bytes) old new = length bytes ≤ length old → new ≡ in_front bytes old
