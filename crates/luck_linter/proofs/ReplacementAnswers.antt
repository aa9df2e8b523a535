-- The answers of the check of a replacement.
-- Assumes nothing.
use Rattle.std.specs.Prelude.{Option}
use Prim.Native.Nat.{ℕ, suc, ◌+◌, ◌≤◌}
use native.Mathlib.Omega.{arith}
use mathlib.Core.Path.{◌≡◌, refl, sym, ◌∙◌}
use mathlib.Core.Bool.{Bool, true, false, true≢false}
use mathlib.Core.List.{List, [], ◌∷◌}
use lib.ListN.{length}
use Rattle.luck_text.specs.Bytes.{among}
use Rattle.luck_text.proofs.Cases.{by_test}
use Rattle.luck_answer.specs.Answer.{Answer, refused}
use Rattle.luck_linter.specs.Checks.{replacement, numbers}
use Rattle.luck_replacement.specs.Replacement.{Piece, literal, digit, percent, other, lone, escaped, pieces, allows_digit, pieces_walk}
use Rattle.luck_replacement.specs.Counts.{largest_digit}
use Rattle.luck_replacement.proofs.Unread.{nine, up_to_nine}
use Rattle.luck_linter.proofs.Counts.{Walked}

-- ---- The pieces are as long as their text

unfoldable width : Piece → ℕ
width (literal b) = 1
width (digit d) = 2
width percent = 2
width (other b) = 2
width lone = 1

unfoldable widths : List Piece → ℕ
widths [] = 0
widths (piece ∷ more) = width piece + widths more

escaped_width : (b : ℕ) → width (escaped b) ≡ 2
unfolding escaped width
escaped_width b = by_test (λ piece. width piece ≡ 2) _ _ _ (λ _. refl) (λ _. by_test (λ piece. width piece ≡ 2) _ _ _ (λ _. refl) (λ _. refl))

pieces_width : (text : List ℕ) → widths (pieces text) ≡ length text
unfolding pieces widths width
pieces_width [] = refl
pieces_width (b ∷ []) = by_test (λ piece. widths (piece ∷ []) ≡ 1) _ _ _ (λ _. refl) (λ _. refl)
pieces_width (b ∷ c ∷ more) =
    let two = pieces_width more in
    let one = pieces_width (c ∷ more) in
    by_test (λ (all : List Piece). widths all ≡ suc (suc (length more))) _ _ _ (λ _. omega (arith, escaped_width c, two)) (λ _. omega (arith, one))

-- ---- A digit that is refused

-- no digit is above 9, so 21 is one of the numbers
too_large : (captures : Option ℕ) (d : ℕ) → d ≤ 9 → allows_digit captures d ≡ false → among 21 (numbers (replacement captures)) ≡ true
unfolding among
too_large captures d h f =
    by_test (λ xs. among 21 xs ≡ true) (allows_digit captures 9) [] (21 ∷ []) (λ e. absurd (true≢false (sym (up_to_nine captures e d h) ∙ f))) (λ _. refl)

-- ---- The walk

module _ (strict : Bool) (captures : Option ℕ) (len : ℕ) where
  abbrev AnswerIn : Answer → Type 0
  AnswerIn answer = Walked len (numbers (replacement captures)) answer

  walk_bounded : (all : List Piece) (p : ℕ) → largest_digit all ≤ 9 → p + widths all ≤ len → AnswerIn (pieces_walk strict captures all p)
  unfolding pieces_walk largest_digit widths width among
  walk_bounded [] p small h = (omega arith, refl, omega arith)
  walk_bounded (literal b ∷ more) p small h = walk_bounded more (p + 1) small (omega arith)
  walk_bounded (digit d ∷ more) p small h =
      let rest = walk_bounded more (p + 2) (omega arith) (omega arith) in
      by_test AnswerIn (allows_digit captures d) (pieces_walk strict captures more (p + 2)) (refused 21 (p + 1)) (λ _. rest) (λ e. (omega arith, too_large captures d (omega arith) e, omega arith))
  walk_bounded (percent ∷ more) p small h = walk_bounded more (p + 2) small (omega arith)
  walk_bounded (other b ∷ more) p small h =
      let rest = walk_bounded more (p + 2) small (omega arith) in
      by_test AnswerIn strict (refused 20 (p + 1)) (pieces_walk strict captures more (p + 2)) (λ _. (omega arith, refl, omega arith)) (λ _. rest)
  walk_bounded (lone ∷ more) p small h =
      let rest = walk_bounded more (p + 1) small (omega arith) in
      by_test AnswerIn strict (refused 19 p) (pieces_walk strict captures more (p + 1)) (λ _. (omega arith, refl, omega arith)) (λ _. rest)

module _ (captures : Option ℕ) (text : List ℕ) where
  pub replacement_bounded : (strict : Bool) → Walked (length text) (numbers (replacement captures)) (pieces_walk strict captures (pieces text) 0)
  replacement_bounded strict = walk_bounded strict captures (length text) (pieces text) 0 (nine text) (omega (arith, pieces_width text))
