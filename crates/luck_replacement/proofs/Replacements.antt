-- Laws of replacements: a turn of the walk over the pieces, for each kind of piece.
-- Assumes nothing.
use Rattle.std.specs.Prelude.{Option, None, Some}
use Prim.Native.Nat.{ℕ, suc, ◌+◌, ◌-◌, ◌*◌, ◌≤◌, ◌<◌, max, min}
use native.Mathlib.Numerals.{add-one}
use native.Mathlib.Omega.{arith}
use mathlib.Core.Path.{◌≡◌, refl, sym, ap, ◌∙◌}
use mathlib.Core.Logic.{⊎_elim}
use mathlib.Core.Bool.{Bool, true, false, not}
use mathlib.Core.List.{List, [], ◌∷◌}
use mir.Val.{bool_byte}
use lib.ListN.{length, drop, drop_of_length-le}
use lib.Seq.{drop-cons}
use lib.Dec.{eqb, leb, ltb}
use borrow.Author.Tests.{eq-eqb, ne_eqb, leb-true, lt-ltb, le-ltb, lt-leb, le-leb}
use Rattle.luck_text.specs.Bytes.{when◌then◌else◌, byte_at, is_digit}
use Rattle.luck_text.proofs.Bytes.{within, below, above}
use Rattle.luck_text.proofs.Cases.{by_test, if_true, if_false, and_right, order}
use Rattle.luck_text.proofs.Others.{passes_others}
use Rattle.luck_answer.specs.Answer.{Answer, accepted, refused}
use Rattle.luck_replacement.specs.Replacement.{
  Piece,
  literal,
  digit,
  percent,
  other,
  lone,
  escaped,
  pieces,
  allows_digit,
  pieces_walk,
}
use Rattle.luck_replacement.specs.Inner.{is_refused, rank}

-- ---- Reading

-- a byte that is no `%`, whatever follows
one : (b : ℕ) (more : List ℕ) → (b ≡ 37 → ⊥) → pieces (b ∷ more) ≡ literal b ∷ pieces more
unfolding pieces when◌then◌else◌
one b [] h = rw (ne_eqb b 37 h)
one b (c ∷ more) h = rw (ne_eqb b 37 h)

two : (b c : ℕ) (more : List ℕ) → b ≡ 37 → pieces (b ∷ c ∷ more) ≡ escaped c ∷ pieces more
unfolding pieces when◌then◌else◌
two b c more e = rw (eq-eqb b 37 e)

last : (b : ℕ) → b ≡ 37 → pieces (b ∷ []) ≡ lone ∷ []
unfolding pieces when◌then◌else◌
last b e = rw (eq-eqb b 37 e)

module _ (text : List ℕ) (p : ℕ) (h : p < length text) where
  at_literal : (byte_at text p ≡ 37 → ⊥) → pieces (drop p text) ≡ literal (byte_at text p) ∷ pieces (drop (p + 1) text)
  at_literal e = rw (drop-cons text p 0 h, add-one p) (one _ _ e)

  at_escape : byte_at text p ≡ 37 → p + 1 < length text → pieces (drop p text) ≡ escaped (byte_at text (p + 1)) ∷ pieces (drop (p + 2) text)
  at_escape e l =
      let s : suc p ≡ p + 1 = omega arith in
      let t : suc (p + 1) ≡ p + 2 = omega arith in
      rw (drop-cons text p 0 h, s, drop-cons text (p + 1) 0 l, t) (two _ _ _ e)

  at_lone : byte_at text p ≡ 37 → length text ≤ p + 1 → pieces (drop p text) ≡ lone ∷ []
  at_lone e l =
      let s : suc p ≡ p + 1 = omega arith in
      rw (drop-cons text p 0 h, s, drop_of_length-le text {i = p + 1} l) (last _ e)

-- ---- One byte behind a `%`

module _ (strict : Bool) (b : ℕ) where
  pub rank_digit : 48 ≤ b → b < 58 → rank strict b ≡ b - 48
  unfolding rank is_digit
  rank_digit l h = if_true _ _ _ (within 48 57 b l (omega arith))

  rank_other : is_digit b ≡ false → rank strict b ≡ 10 * bool_byte strict
  unfolding rank
  rank_other d = if_false _ _ _ d ∙ ten strict
    where
      ten : (s : Bool) → (when s then 10 else 0) ≡ 10 * bool_byte s
      ten true = unfold when◌then◌else◌ in refl
      ten false = unfold when◌then◌else◌ in refl

  pub rank_below : b < 48 → rank strict b ≡ 10 * bool_byte strict
  unfolding is_digit
  rank_below h = rank_other (below 48 57 b h)

  pub rank_above : 58 ≤ b → rank strict b ≡ 10 * bool_byte strict
  unfolding is_digit
  rank_above h = rank_other (above 48 57 b h)

pub ruleset ranks = (rank_digit, rank_below, rank_above)

-- the code's comparison
module _ (limit : ℕ) (l : 1 ≤ limit) (h : limit ≤ 9) where
  of_digit : (d : ℕ) → ltb (limit + 0) d ≡ not (allows_digit (Some limit) d)
  unfolding allows_digit
  of_digit d =
      ⊎_elim
      (λ k. lt-ltb (limit + 0) d (omega arith) ∙ sym (ap not (lt-leb d (max limit 1) (omega arith))))
      (λ k. le-ltb (limit + 0) d (omega arith) ∙ sym (ap not (le-leb d (max limit 1) (omega arith))))
      (order limit d)

  of_no_percent : (strict : Bool) (b : ℕ) (is_a_digit : Bool)
      → ltb (limit + 0) (when is_a_digit then b - 48 else when strict then 10 else 0)
      ≡ (when is_a_digit then not (allows_digit (Some limit) (b - 48)) else strict)
  unfolding when◌then◌else◌
  of_no_percent strict b true = of_digit (b - 48)
  of_no_percent true b false = lt-ltb (limit + 0) 10 (omega arith)
  of_no_percent false b false = le-ltb (limit + 0) 0 (omega arith)

  pub compared : (strict : Bool) (b : ℕ) → ltb (limit + 16 * bool_byte (eqb b 37)) (rank strict b) ≡ is_refused strict (Some limit) b
  unfolding rank is_digit is_refused when◌then◌else◌
  compared strict b = go (eqb b 37)
    where
      small : rank strict b ≤ 10
      small =
          by_test (λ n. n ≤ 10) _ _ _
          (λ d. let g = leb-true b 57 (and_right (leb 48 b) (leb b 57) d) in omega arith)
          (λ _. by_test (λ n. n ≤ 10) strict _ _ (λ _. omega arith) (λ _. omega arith))

      go : (is_percent : Bool)
          → ltb (limit + 16 * bool_byte is_percent) (rank strict b)
          ≡ (when is_percent then false else when is_digit b then not (allows_digit (Some limit) (b - 48)) else strict)
      go true = le-ltb (limit + 16) (rank strict b) (omega (arith, small))
      go false = of_no_percent strict b (is_digit b)

-- the walk at the piece that the byte makes
refusal_of : (strict : Bool) (captures : Option ℕ) (b : ℕ) (more : List Piece) (p : ℕ) (is_percent is_a_digit : Bool)
    → pieces_walk strict captures ((when is_percent then percent else when is_a_digit then digit (b - 48) else other b) ∷ more) p
    ≡ (when when is_percent then false else when is_a_digit then not (allows_digit captures (b - 48)) else strict
    then (when is_a_digit then refused 21 (p + 1) else refused 20 (p + 1)) else pieces_walk strict captures more (p + 2))
unfolding pieces_walk when◌then◌else◌
refusal_of strict captures b more p true is_a_digit = refl
refusal_of strict captures b more p false true = go (allows_digit captures (b - 48))
  where
    go : (t : Bool) → (when t then pieces_walk strict captures more (p + 2) else refused 21 (p + 1)) ≡ (when not t then refused 21 (p + 1) else pieces_walk strict captures more (p + 2))
    go true = refl
    go false = refl
refusal_of strict captures b more p false false = refl

-- ---- Whether anything can be refused

pub below_nine : (limit : ℕ) → ltb limit 9 ≡ not (allows_digit (Some limit) 9)
unfolding allows_digit
below_nine limit =
    ⊎_elim
    (λ k. lt-ltb limit 9 k ∙ sym (ap not (lt-leb 9 (max limit 1) (omega arith))))
    (λ k. le-ltb limit 9 k ∙ sym (ap not (le-leb 9 (max limit 1) (omega arith))))
    (order limit 9)

-- ---- The limit

-- the digits that a count allows are those that it allows from 1 to 9
pub clamped : (count d : ℕ) → d ≤ 9 → allows_digit (Some (max 1 (min count 9))) d ≡ allows_digit (Some count) d
unfolding allows_digit
clamped count d h =
    ⊎_elim
    (λ k. lt-leb d (max (max 1 (min count 9)) 1) (omega arith) ∙ sym (lt-leb d (max count 1) k))
    (λ k. le-leb d (max (max 1 (min count 9)) 1) (omega arith) ∙ sym (le-leb d (max count 1) k))
    (order (max count 1) d)

pub all_nine : (d : ℕ) → d ≤ 9 → allows_digit (Some 9) d ≡ allows_digit None d
unfolding allows_digit
all_nine d h = le-leb d 9 h

pub ruleset limits = (clamped, all_nine)

-- ---- The walk

module _ (strict : Bool) (captures : Option ℕ) (text : List ℕ) where
  abbrev pub on : ℕ → Answer
  on p = pieces_walk strict captures (pieces (drop p text)) p

  pub at_end : (p : ℕ) → length text ≤ p → accepted 0 ≡ on p
  unfolding pieces pieces_walk
  at_end p h = rw (drop_of_length-le text {i = p} h)

  pub passes_literal : (p : ℕ) → p < length text → (byte_at text p ≡ 37 → ⊥) → on (p + 1) ≡ on p
  unfolding pieces_walk
  passes_literal p h e = sym (ap (λ (l : List Piece). pieces_walk strict captures l p) (at_literal text p h e))

  pub passes_plain : (p q : ℕ) → p ≤ q → q ≤ length text → ((k : ℕ) → p ≤ k → k < q → byte_at text k ≡ 37 → ⊥) → on q ≡ on p
  passes_plain p q = passes_others 37 text on passes_literal p q

  module _ (p : ℕ) (h : p < length text) (e : byte_at text p ≡ 37) where
    pub lone_strict : length text ≤ p + 1 → strict ≡ true → refused 19 p ≡ on p
    unfolding pieces_walk
    lone_strict l t = sym (ap (λ (x : List Piece). pieces_walk strict captures x p) (at_lone text p h e l) ∙ if_true _ _ _ t)

    pub lone_lenient : length text ≤ p + 1 → strict ≡ false → accepted 0 ≡ on p
    unfolding pieces_walk
    lone_lenient l t = sym (ap (λ (x : List Piece). pieces_walk strict captures x p) (at_lone text p h e l) ∙ if_false _ _ _ t)

    module _ (l : p + 1 < length text) where
      abbrev next : ℕ
      next = byte_at text (p + 1)

      turn : on p ≡ (when is_refused strict captures next then (when is_digit next then refused 21 (p + 1) else refused 20 (p + 1)) else on (p + 2))
      unfolding escaped is_refused
      turn =
          ap (λ (x : List Piece). pieces_walk strict captures x p) (at_escape text p h e l)
          ∙ refusal_of strict captures next (pieces (drop (p + 2) text)) p (eqb next 37) (is_digit next)

      pub passes_escape : is_refused strict captures next ≡ false → on (p + 2) ≡ on p
      passes_escape f = sym (turn ∙ if_false _ _ _ f)

      pub beyond : is_refused strict captures next ≡ true → is_digit next ≡ true → refused 21 (p + 1) ≡ on p
      beyond t d = sym (turn ∙ if_true _ _ _ t ∙ if_true _ _ _ d)

      pub bad_escape : is_refused strict captures next ≡ true → is_digit next ≡ false → refused 20 (p + 1) ≡ on p
      bad_escape t d = sym (turn ∙ if_true _ _ _ t ∙ if_false _ _ _ d)

-- for a function that walks over the pieces
pub ruleset turns = (at_end, passes_literal, passes_plain, lone_strict, lone_lenient, passes_escape, beyond, bad_escape)
