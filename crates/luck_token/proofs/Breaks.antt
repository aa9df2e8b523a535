-- Laws of line breaks: as a sum of tests, where there is none, and that a break lies in the text.
-- Assumes nothing.
use Prim.Native.Nat.{ℕ, ◌+◌, ◌*◌, ◌≤◌, ◌<◌}
use native.Mathlib.Omega.{arith}
use mathlib.Core.Path.{◌≡◌, refl, sym, ap, ◌∙◌}
use mathlib.Core.Bool.{Bool, true, false, ◌&&◌}
use mathlib.Core.List.{List}
use lib.ListN.{length, get_or-eq_default}
use lib.Dec.{eqb}
use borrow.Author.Tests.{eqb-true, ne_eqb}
use mir.Val.{bool_byte}
use Rattle.luck_text.specs.Bytes.{when◌then◌else◌, byte_at}
use Rattle.luck_token.specs.Whitespace.{line_break}
use mathlib.Core.Logic.{⊎_elim}
use Rattle.luck_text.proofs.Cases.{by_test, and_right, present, bit, order}

-- a break by four tests: of CR and LF here, and of LF and CR behind
chosen : Bool → Bool → Bool → Bool → Bool → ℕ
chosen lfcr cr lf next_lf next_cr = when cr && next_lf then 2 else when lfcr && lf && next_cr then 2 else when lfcr && cr then 1 else when lf then 1 else 0

-- a product of bits is one
pub bit_of_both : (a b : Bool) → bool_byte a * bool_byte b ≤ 1
bit_of_both true b = omega (arith, bit b)
bit_of_both false b = omega arith

-- which is a sum of their bits, since no byte is both
module _ (next_lf next_cr : Bool) where
  with_lfcr : (cr lf : Bool) → (cr ≡ true → lf ≡ true → ⊥)
      → bool_byte cr + bool_byte lf + bool_byte cr * bool_byte next_lf + bool_byte lf * bool_byte next_cr ≡ chosen true cr lf next_lf next_cr
  unfolding chosen when◌then◌else◌
  with_lfcr true true h = absurd (h refl refl)
  with_lfcr true false h = go next_lf
    where
      go : (n : Bool) → 1 + 0 + 1 * bool_byte n + 0 * bool_byte next_cr ≡ (when n then 2 else 1)
      go true = omega arith
      go false = omega arith
  with_lfcr false true h = go next_cr
    where
      go : (n : Bool) → 0 + 1 + 0 * bool_byte next_lf + 1 * bool_byte n ≡ (when n then 2 else 1)
      go true = omega arith
      go false = omega arith
  with_lfcr false false h = omega arith

  without_lfcr : (cr lf : Bool) → (cr ≡ true → lf ≡ true → ⊥)
      → bool_byte lf + bool_byte cr * bool_byte next_lf + bool_byte cr * bool_byte next_lf ≡ chosen false cr lf next_lf next_cr
  unfolding chosen when◌then◌else◌
  without_lfcr true true h = absurd (h refl refl)
  without_lfcr true false h = go next_lf
    where
      go : (n : Bool) → 0 + 1 * bool_byte n + 1 * bool_byte n ≡ (when n then 2 else 0)
      go true = omega arith
      go false = omega arith
  without_lfcr false true h = omega arith
  without_lfcr false false h = omega arith

module _ (lfcr : Bool) (text : List ℕ) (p : ℕ) where
  abbrev here : ℕ → Bool
  here b = eqb (byte_at text p) b

  abbrev next : ℕ → Bool
  next b = eqb (byte_at text (p + 1)) b

  by_chosen : line_break lfcr text p ≡ chosen lfcr (here 13) (here 10) (next 10) (next 13)
  unfolding line_break chosen
  by_chosen = refl

  -- no byte is both
  not_both : here 13 ≡ true → here 10 ≡ true → ⊥
  not_both c l = omega (arith, eqb-true (byte_at text p) 13 c, eqb-true (byte_at text p) 10 l)

  pub sum_with : lfcr ≡ true
      → bool_byte (here 13) + bool_byte (here 10) + bool_byte (here 13) * bool_byte (next 10) + bool_byte (here 10) * bool_byte (next 13) ≡ line_break lfcr text p
  sum_with e = with_lfcr (next 10) (next 13) (here 13) (here 10) not_both ∙ ap (λ t. chosen t (here 13) (here 10) (next 10) (next 13)) (sym e) ∙ sym by_chosen

  pub sum_without : lfcr ≡ false
      → bool_byte (here 10) + bool_byte (here 13) * bool_byte (next 10) + bool_byte (here 13) * bool_byte (next 10) ≡ line_break lfcr text p
  sum_without e = without_lfcr (next 10) (next 13) (here 13) (here 10) not_both ∙ ap (λ t. chosen t (here 13) (here 10) (next 10) (next 13)) (sym e) ∙ sym by_chosen

  -- an LF without a CR behind it
  pub lone_lf : byte_at text p ≡ 10 → (byte_at text (p + 1) ≡ 13 → ⊥) → 1 ≡ line_break lfcr text p
  unfolding line_break when◌then◌else◌
  lone_lf e f = go lfcr
    where
      go : (t : Bool) → 1 ≡ line_break t text p
      go true = rw (e, ne_eqb (byte_at text (p + 1)) 13 f)
      go false = rw e

  pub no_break : (byte_at text p ≡ 13 → ⊥) → (byte_at text p ≡ 10 → ⊥) → 0 ≡ line_break lfcr text p
  unfolding line_break when◌then◌else◌
  no_break e f = go lfcr
    where
      go : (t : Bool) → 0 ≡ line_break t text p
      go true = rw (ne_eqb (byte_at text p) 13 e, ne_eqb (byte_at text p) 10 f)
      go false = rw (ne_eqb (byte_at text p) 13 e, ne_eqb (byte_at text p) 10 f)

  pub past_end : length text ≤ p → 0 ≡ line_break lfcr text p
  past_end h = let e = get_or-eq_default text 0 {n = p} h in no_break (λ q. absurd (omega arith)) (λ q. absurd (omega arith))

  byte_there : (q b : ℕ) → 0 < b → eqb (byte_at text q) b ≡ true → q < length text
  byte_there q b h e = present text q (omega (arith, eqb-true (byte_at text q) b e))

  -- a break lies in the text
  pub break_inside : p ≤ length text → p + line_break lfcr text p ≤ length text
  unfolding line_break
  break_inside h =
      let here : ℕ → Bool = eqb (byte_at text p) in
      let next : ℕ → Bool = eqb (byte_at text (p + 1)) in
      by_test In _ 2 _ (λ e. omega (arith, byte_there (p + 1) 10 (omega arith) (and_right (here 13) (next 10) e)))
      (λ _. by_test In _ 2 _ (λ e. omega (arith, byte_there (p + 1) 13 (omega arith) (and_right (lfcr && here 10) (next 13) e)))
      (λ _. by_test In _ 1 _ (λ e. omega (arith, byte_there p 13 (omega arith) (and_right lfcr (here 13) e)))
      (λ _. by_test In _ 1 0 (λ e. omega (arith, byte_there p 10 (omega arith) e)) (λ _. omega arith))))
    where
      In : ℕ → Type 0
      In w = p + w ≤ length text

-- and it is no longer than the text
pub width_inside : (lfcr : Bool) (text : List ℕ) (p width : ℕ) → width ≡ line_break lfcr text p → width ≤ length text
width_inside lfcr text p width e =
    ⊎_elim (λ outside. omega (arith, past_end lfcr text p (omega arith)))
    (λ here. omega (arith, break_inside lfcr text p here)) (order (length text) p)
