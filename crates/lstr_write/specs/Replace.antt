-- What is written for a match (add_s and get_onecapture of lstrlib.c 5.4, and add_s of 5.1 for version 1; document 01,
-- "Writing"), byte by byte into an output of a given room.
-- Assumes nothing.
use Rattle.std.specs.Prelude.{ℕ, zero, suc, ◌+◌, ◌-◌, ◌/◌, ◌%◌, Bool, List}
use Rattle.std.specs.Prelude.{[], ◌∷◌, ◌++◌, length, get_or, eqb, leb, ltb}
use Prim.Native.Char.{code}
use Rattle.luck_text.specs.Bytes.{when◌then◌else◌, part}
use Rattle.luck_replacement.specs.Replacement.{Piece, literal, digit, percent, other, lone}
use Rattle.lstr_item.specs.Match.{Capture, opened, position, closed}

-- what has been written; or what ended it, by number and kind, and what had been written
pub data Wrote : Type 0 where
  wrote : List ℕ → Wrote
  ended : ℕ → ℕ → List ℕ → Wrote

unfoldable pub and_then : Wrote → (List ℕ → Wrote) → Wrote
and_then (wrote out) k = k out
and_then (ended number kind out) k = ended number kind out

-- bytes are appended in order: 26 where one is due and the output is full
unfoldable pub append : ℕ → List ℕ → List ℕ → Wrote
append room [] out = wrote out
append room (b ∷ more) out =
    let on = append room more (out ++ (b ∷ [])) in
    when ltb (length out) room then on else ended 26 0 out

-- a number in decimal; n is more than its digits (`decimal_large` takes it away)
unfoldable pub decimal_from : ℕ → ℕ → List ℕ
decimal_from zero x = []
decimal_from (suc n) x =
    let high = decimal_from n (x / 10) in
    when ltb x 10 then (code "0" + x) ∷ [] else high ++ ((code "0" + x % 10) ∷ [])

unfoldable pub decimal : ℕ → List ℕ
decimal x = decimal_from (suc x) x

-- a position is written as a number from 1
unfoldable pub add_capture : List ℕ → ℕ → Capture → List ℕ → Wrote
add_capture sub room (opened s) out = ended 29 6 out
add_capture sub room (position s) out = append room (decimal (s + 1)) out
add_capture sub room (closed s n) out = append room (part sub s (s + n)) out

-- for a match from place s to place e, with its captures
module _ (sub : List ℕ) (room s e : ℕ) (cs : List Capture) where
  -- get_onecapture: `%0` is the match, and so is `%1` if there are no captures
  unfoldable pub add_digit : ℕ → List ℕ → Wrote
  add_digit d out =
      let whole = append room (part sub s e) out in
      let capture = add_capture sub room (get_or cs (d - 1) (opened 0)) out in
      when eqb d 0 then whole
      else when leb d (length cs) then capture
      else when eqb d 1 then whole else ended 29 10 out

  -- by document 01's row "strict replacement, checked date": 5.1, which is not strict, writes the byte after a `%`, and
  -- C's closing zero byte for a final `%`
  unfoldable pub add_piece : Bool → Piece → List ℕ → Wrote
  add_piece strict (literal b) out = append room (b ∷ []) out
  add_piece strict (digit d) out = add_digit d out
  add_piece strict percent out = append room (code "%" ∷ []) out
  add_piece strict (other b) out = when strict then ended 29 9 out else append room (b ∷ []) out
  add_piece strict lone out = when strict then ended 29 9 out else append room (0 ∷ []) out

  -- add_s
  unfoldable pub add_pieces : Bool → List Piece → List ℕ → Wrote
  add_pieces strict [] out = wrote out
  add_pieces strict (p ∷ more) out = and_then (add_piece strict p out) (λ now. add_pieces strict more now)
