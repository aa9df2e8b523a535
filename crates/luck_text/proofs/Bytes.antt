-- Laws of bytes: tests of a range, sets, parts, runs, and numbers that stay at the largest.
-- Assumes nothing.
use Prim.Native.Nat.{ℕ, zero, suc, ◌+◌, ◌*◌, ◌-◌, ◌/◌, ◌%◌, ◌≤◌, ◌<◌, min}
use native.Mathlib.Nat.{mul-zero, mul-suc}
use native.Mathlib.Numerals.{add-one}
use native.Mathlib.Omega.{arith}
use mathlib.Core.Path.{◌≡◌, refl, sym, ap, ap₂, subst, ◌∙◌}
use mathlib.Core.Logic.{◌⊎◌, inl, inr, ⊎_elim}
use mathlib.Core.Bool.{Bool, true, false, ◌||◌}
use mathlib.Core.List.{List, [], ◌∷◌, ◌++◌}
use Rattle.std.proofs.lemmas.List.{drop-drop}
use lib.ListN.{length, get_or-append, take, drop, length-append, length-drop, drop_of_length-le}
use lib.Seq.{take-suc, drop-append_seam, drop-cons, take-nil, get_or-take, get_or-drop, length-take-le}
use lib.Dec.{leb}
use borrow.Author.Tests.{le-leb, lt-leb, leb-true, eq-eqb, ne_eqb}
use Rattle.luck_text.specs.Bytes.{when◌then◌else◌, byte_at, part, in_front, between, among, is_digit}
use Rattle.luck_text.specs.Bytes.{is_xdigit, run, digit_value, numeral_from, numeral}
use Rattle.luck_text.specs.Scan.{most, grown}
use Rattle.luck_text.proofs.Cases.{order, and_left, and_right, second_false}

-- ---- A range

module _ (low high b : ℕ) where
  pub within : low ≤ b → b ≤ high → between low high b ≡ true
  within l h = rw (le-leb low b l, le-leb b high h)

  abbrev pub Between : Type 0
  Between = (low ≤ b) × (b ≤ high)

  pub between_true : between low high b ≡ true → Between
  between_true t = (leb-true low b (and_left (leb low b) (leb b high) t), leb-true b high (and_right (leb low b) (leb b high) t))

  pub below : b < low → between low high b ≡ false
  below l = rw (lt-leb low b l)

  pub above : high < b → between low high b ≡ false
  above h = second_false (leb low b) (leb b high) (lt-leb b high h)

-- ---- A set

module _ (b : ℕ) (set : List ℕ) (p : ℕ) where
  -- the byte stands at p, or further on, or the set ends at p
  pub among_here : p < length set → b ≡ byte_at set p → true ≡ among b (drop p set)
  unfolding among
  among_here h e = rw (drop-cons set p 0, eq-eqb b (byte_at set p) e)

  pub among_later : p < length set → (b ≡ byte_at set p → ⊥) → among b (drop (p + 1) set) ≡ among b (drop p set)
  unfolding among
  among_later h e = rw (drop-cons set p 0, add-one p, ne_eqb b (byte_at set p) e)

  pub among_end : length set ≤ p → false ≡ among b (drop p set)
  unfolding among
  among_end h = rw (drop_of_length-le set h)

-- ---- A part

-- what holds of each byte of a part holds of the text's from place to place
pub all_of_part : (P : ℕ → Type 0) (text : List ℕ) (p size : ℕ) → p + size ≤ length text
    → ((k : ℕ) → k < length (part text p (p + size)) → P (byte_at (part text p (p + size)) k)) → (k : ℕ) → p ≤ k → k < p + size → P (byte_at text k)
all_of_part P text p size h f k l m =
    let n = length-take-le (p + size - p) (drop p text) (omega (arith, length-drop p text)) in
    let q : p + (k - p) ≡ k = omega arith in
    subst P (get_or-take (p + size - p) (drop p text) (k - p) 0 (omega arith) ∙ get_or-drop p text (k - p) 0 ∙ ap (byte_at text) q) (f (k - p) (omega arith))

-- what holds from a place to a second, and from there to a third
pub all_between : (P : ℕ → Type 0) (from at to : ℕ) → ((k : ℕ) → from ≤ k → k < at → P k) → ((k : ℕ) → at ≤ k → k < to → P k)
    → (k : ℕ) → from ≤ k → k < to → P k
all_between P from at to f g k l m = ⊎_elim (λ h. f k l h) (λ h. g k h m) (order k at)

-- the next block of a text, of which `at` bytes were passed
module _ (text block rest : List ℕ) (at size : ℕ) (is : drop at text ≡ block ++ rest) (whole : length block ≡ size) where
  pub block_rest : rest ≡ drop (at + size) text
  block_rest = sym (drop-append_seam block rest) ∙ rw (whole, ← is) (drop-drop size at text)

  pub block_fits : at ≤ length text → at + size ≤ length text
  block_fits h = omega (arith, length-drop at text, length-append block rest, ap length is)

  block_byte : (j : ℕ) → j < size → byte_at block j ≡ byte_at text (at + j)
  block_byte j h = sym (get_or-append block rest 0 j (omega arith)) ∙ rw (← is) (get_or-drop at text j 0)

  -- what holds of the bytes that were passed, and of the block's
  pub block_more : (P : ℕ → Type 0) (from : ℕ) → ((k : ℕ) → from ≤ k → k < at → P (byte_at text k)) → ((k : ℕ) → k < length block → P (byte_at block k))
      → (k : ℕ) → from ≤ k → k < at + size → P (byte_at text k)
  block_more P from passed here =
      all_between (λ k. P (byte_at text k)) from at (at + size) passed
      (λ k l m. let q : at + (k - at) ≡ k = omega arith in subst P (block_byte (k - at) (omega arith) ∙ ap (byte_at text) q) (here (k - at) (omega arith)))

-- ---- A run

module _ (test : ℕ → Bool) where
  one_more : (b : ℕ) (text : List ℕ) → test b ≡ true → run test (b ∷ text) ≡ suc (run test text)
  unfolding run when◌then◌else◌
  one_more b text e = rw e

  no_more : (b : ℕ) (text : List ℕ) → test b ≡ false → run test (b ∷ text) ≡ 0
  unfolding run when◌then◌else◌
  no_more b text e = rw e

  -- a byte that passes, one that does not, and the end
  pub run_more : (text : List ℕ) (p : ℕ) → p < length text → test (byte_at text p) ≡ true → run test (drop p text) ≡ suc (run test (drop (p + 1) text))
  run_more text p h e = rw (drop-cons text p 0, add-one p) (one_more _ _ e)

  pub run_stop : (text : List ℕ) (p : ℕ) → p < length text → test (byte_at text p) ≡ false → run test (drop p text) ≡ 0
  run_stop text p h e = rw (drop-cons text p 0) (no_more _ _ e)

  pub run_end : (text : List ℕ) (p : ℕ) → length text ≤ p → run test (drop p text) ≡ 0
  unfolding run
  run_end text p h = rw (drop_of_length-le text h)

  -- a run that is not empty has its first byte
  pub run_first : (text : List ℕ) (p : ℕ) → 0 < run test (drop p text) → (p < length text) × (test (byte_at text p) ≡ true)
  run_first text p h = ⊎_elim (λ l. (l, go l (test (byte_at text p)) refl)) (λ g. absurd (omega (arith, run_end text p g))) (order p (length text))
    where
      go : p < length text → (t : Bool) → test (byte_at text p) ≡ t → test (byte_at text p) ≡ true
      go l true e = e
      go l false e = absurd (omega (arith, run_stop text p l e))

  run_length : (text : List ℕ) → run test text ≤ length text
  unfolding run
  run_length [] = omega arith
  run_length (b ∷ text) = go (test b) refl (run_length text)
    where
      go : (t : Bool) → test b ≡ t → run test text ≤ length text → run test (b ∷ text) ≤ suc (length text)
      go true e h = rw (one_more b text e) (omega arith)
      go false e h = rw (no_more b text e) (omega arith)

  pub run_short : (text : List ℕ) (p : ℕ) → run test (drop p text) ≤ length text
  run_short text p = omega (arith, run_length (drop p text), length-drop p text)

  -- a run lies in the text
  pub run_inside : (text : List ℕ) (p : ℕ) → p ≤ length text → p + run test (drop p text) ≤ length text
  run_inside text p h = omega (arith, run_length (drop p text), length-drop p text)

-- the bytes from `at` to `end` are of a run
pub record InRun (test : ℕ → Bool) (text : List ℕ) (at end : ℕ) : Type 0 where
  pub behind : at ≤ end
  pub so_far : run test (drop at text) ≡ end - at + run test (drop end text)

module _ {test : ℕ → Bool} {text : List ℕ} {at end : ℕ} (i : InRun test text at end) where
  pub run_goes_on : end < length text → test (byte_at text end) ≡ true → InRun test text at (end + 1)
  run_goes_on h t = record { behind = omega arith; so_far = omega (arith, run_more test text end h t) }

  pub run_stopped : end < length text → test (byte_at text end) ≡ false → end - at ≡ run test (drop at text)
  run_stopped h t = omega (arith, run_stop test text end h t)

  pub run_ended : length text ≤ end → end - at ≡ run test (drop at text)
  run_ended h = omega (arith, run_end test text end h)

-- ---- A number

-- a number that stays at the largest, with one more digit
module _ (value digit : ℕ) where
  large : (base : ℕ) → most ≤ value → min (most * base + digit) most ≡ min (value * base + digit) most
  large zero h = rw (mul-zero most, mul-zero value)
  large (suc base) h = omega (arith, mul-suc value base, mul-suc most base)

  pub grown_min : (base : ℕ) → grown (min value most) base digit ≡ min (value * base + digit) most
  unfolding grown
  grown_min base =
      ⊎_elim (λ h. let e : min value most ≡ value = omega arith in rw e)
      (λ h. let e : min value most ≡ most = omega arith in rw e (large base h)) (order value most)

-- the digits from a place to another: one more, and none
module _ (base : ℕ) (text : List ℕ) (to : ℕ) where
  pub digit_more : (high p : ℕ) → p < to → p < length text
      → numeral_from base high (part text p to) ≡ numeral_from base (high * base + digit_value (byte_at text p)) (part text (p + 1) to)
  unfolding numeral_from
  digit_more high p h l =
      let e : to - p ≡ suc (to - (p + 1)) = omega arith in
      rw (e, drop-cons text p 0 l, ← add-one p)

  pub digit_end : (high p : ℕ) → (to ≤ p) ⊎ (length text ≤ p) → numeral_from base high (part text p to) ≡ high
  unfolding numeral_from
  digit_end high p (inl h) = let e : to - p ≡ 0 = omega arith in rw e
  digit_end high p (inr h) = rw (drop_of_length-le text {i = p} h, take-nil (to - p))

-- one digit more: the number so far stays at the largest
module _ (base : ℕ) where
  from_last : (high : ℕ) (digits : List ℕ) (d : ℕ) → numeral_from base high (digits ++ (d ∷ [])) ≡ numeral_from base high digits * base + digit_value d
  unfolding numeral_from
  from_last high [] d = refl
  from_last high (x ∷ digits) d = from_last (high * base + digit_value x) digits d

  pub spelled_more : (digits : List ℕ) (i value digit next : ℕ) → i < length digits → value ≡ min (numeral base (take i digits)) most
      → digit ≡ digit_value (byte_at digits i) → next ≡ grown value base digit → next ≡ min (numeral base (take (i + 1) digits)) most
  unfolding numeral
  spelled_more digits i value digit next h v d e =
      let n = numeral_from base 0 (take i digits) in
      e ∙ ap₂ (λ (x y : ℕ). grown x base y) v d ∙ grown_min n (digit_value (byte_at digits i)) base
      ∙ ap (λ (x : ℕ). min x most) (sym (from_last 0 (take i digits) (byte_at digits i)))
      ∙ ap (λ (l : List ℕ). min (numeral_from base 0 l) most) (sym (rw (add-one i) (take-suc digits i 0 h)))

  -- the digits from a place to another, none and one more
  pub spelled_none : (text : List ℕ) (at : ℕ) → 0 ≡ min (numeral base (part text at at)) most
  unfolding numeral numeral_from
  spelled_none text at = let none : at - at ≡ 0 = omega arith in rw (none) refl

  pub spelled_next : (text : List ℕ) (at end value digit next : ℕ) → at ≤ end → end < length text → value ≡ min (numeral base (part text at end)) most
      → digit ≡ digit_value (byte_at text end) → next ≡ grown value base digit → next ≡ min (numeral base (part text at (end + 1))) most
  spelled_next text at end value digit next b h v d e =
      let there : at + (end - at) ≡ end = omega arith in
      let more : end - at + 1 ≡ end + 1 - at = omega arith in
      rw (← more)
      (spelled_more (drop at text) (end - at) value digit next (omega (arith, length-drop at text)) v
      (d ∙ ap digit_value (sym (get_or-drop at text (end - at) 0 ∙ ap (byte_at text) there))) e)

-- ---- The value of a digit

module _ (b : ℕ) where
  pub digit_low : b ≤ 57 → b - 48 ≡ digit_value b
  unfolding digit_value when◌then◌else◌
  digit_low h = rw (le-leb b 57 h)

  pub digit_capital : 57 < b → b ≤ 70 → b - 65 + 10 ≡ digit_value b
  unfolding digit_value when◌then◌else◌
  digit_capital l h = rw (lt-leb b 57 l, le-leb b 70 h)

  pub digit_high : 70 < b → b - 97 + 10 ≡ digit_value b
  unfolding digit_value when◌then◌else◌
  digit_high l = rw (lt-leb b 57 (omega arith), lt-leb b 70 l)

  pub digit_none : b < 48 → 0 ≡ digit_value b
  digit_none h = omega (arith, digit_low (omega arith))

-- a decimal digit's value is below 10
pub digit_here : (b : ℕ) → is_digit b ≡ true → (48 ≤ b) × (b - 48 ≡ digit_value b) × (b - 48 < 10)
unfolding is_digit
digit_here b e = let r = between_true 48 57 b e in (r.0, digit_low b r.1, omega arith)

-- a hexadecimal digit is one of three kinds
pub hex_case : (P : Type 0) (b : ℕ) → is_xdigit b ≡ true → (48 ≤ b → b ≤ 57 → P) → (97 ≤ b → b ≤ 102 → P) → (65 ≤ b → b ≤ 70 → P) → P
unfolding is_xdigit is_digit
hex_case P b e digit small capital =
    or_case (between 48 57 b || between 97 102 b) (between 65 70 b) e
    (λ d. or_case (between 48 57 b) (between 97 102 b) d (λ t. in_range 48 57 t digit) (λ t. in_range 97 102 t small))
    (λ t. in_range 65 70 t capital)
  where
    or_case : (x y : Bool) → (x || y) ≡ true → (x ≡ true → P) → (y ≡ true → P) → P
    or_case true y q f g = f refl
    or_case false y q f g = g q

    in_range : (low high : ℕ) → between low high b ≡ true → (low ≤ b → b ≤ high → P) → P
    in_range low high t f = let r = between_true low high b t in f r.0 r.1

-- its value is below 16
pub hex_value : (b : ℕ) → is_xdigit b ≡ true → digit_value b < 16
hex_value b e =
    hex_case (digit_value b < 16) b e (λ l h. omega (arith, digit_low b h)) (λ l h. omega (arith, digit_high b (omega arith)))
    (λ l h. omega (arith, digit_capital b (omega arith) h))

-- and made from the halves of its code
pub hex_halves : (b : ℕ) → is_xdigit b ≡ true → b % 16 + b / 64 * 9 ≡ digit_value b
hex_halves b e =
    hex_case (b % 16 + b / 64 * 9 ≡ digit_value b) b e (λ l h. omega (arith, digit_low b h)) (λ l h. omega (arith, digit_high b (omega arith)))
    (λ l h. omega (arith, digit_capital b (omega arith) h))

-- ---- The front of an output

-- an output keeps its length, whatever is written in it
pub front_length : (bytes output : List ℕ) → length bytes ≤ length output → length (in_front bytes output) ≡ length output
front_length bytes output h = omega (arith, length-append bytes (drop (length bytes) output), length-drop (length bytes) output)
