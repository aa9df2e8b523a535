-- How a gsub replacement is read (add_s of lstrlib.c), and which are accepted (validate_gsub_replacement of luck;
-- document 01, "Pattern, then replacement").
-- Assumes nothing.
use Rattle.std.specs.Prelude.{ℕ, ◌+◌, ◌-◌, max, Bool, true, List, [], ◌∷◌, eqb, leb, Option, None, Some}
use Prim.Native.Char.{code}
use Rattle.luck_text.specs.Bytes.{when◌then◌else◌, is_digit}
use Rattle.luck_token.specs.Version.{rules_of}
use Rattle.luck_token.specs.declared.version.Rules.{Rules}
use Rattle.luck_answer.specs.Answer.{Answer, accepted, refused, check_text}

-- the row "strict replacement, checked date" of document 01
abbrev pub is_strict : Rules → Bool
is_strict rules = rules.strict_gsub_replacement

pub data Piece : Type 0 where
  literal : ℕ → Piece  -- a byte for itself
  digit : ℕ → Piece  -- `%` and a digit
  percent : Piece  -- `%%`
  other : ℕ → Piece  -- `%` and another byte
  lone : Piece  -- a final `%`

unfoldable pub escaped : ℕ → Piece
escaped b = when eqb b (code "%") then percent else when is_digit b then digit (b - code "0") else other b

unfoldable pub pieces : List ℕ → List Piece
pieces [] = []
pieces (b ∷ []) = (when eqb b (code "%") then lone else literal b) ∷ []
pieces (b ∷ c ∷ more) =
    let two = escaped c ∷ pieces more in
    let one = literal b ∷ pieces (c ∷ more) in
    when eqb b (code "%") then two else one

-- With a count of captures that is known, a digit is at most the larger of it and 1
unfoldable pub allows_digit : Option ℕ → ℕ → Bool
allows_digit (Some count) d = leb d (max count 1)
allows_digit None d = true

-- the pieces from place p on
unfoldable pub pieces_walk : Bool → Option ℕ → List Piece → ℕ → Answer
pieces_walk strict count [] p = accepted 0
pieces_walk strict count (literal b ∷ more) p = pieces_walk strict count more (p + 1)
pieces_walk strict count (digit d ∷ more) p =
    let on = pieces_walk strict count more (p + 2) in
    when allows_digit count d then on else refused 21 (p + 1)
pieces_walk strict count (percent ∷ more) p = pieces_walk strict count more (p + 2)
pieces_walk strict count (other c ∷ more) p =
    let on = pieces_walk strict count more (p + 2) in
    when strict then refused 20 (p + 1) else on
pieces_walk strict count (lone ∷ more) p =
    let on = pieces_walk strict count more (p + 1) in
    when strict then refused 19 p else on

unfoldable pub check_replacement : ℕ → Option ℕ → List ℕ → Answer
check_replacement version count text =
    check_text version text (pieces_walk (is_strict (rules_of version)) count (pieces text) 0)
