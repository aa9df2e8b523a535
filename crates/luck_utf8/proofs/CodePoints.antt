-- The laws of code points: which of them have a character, the row of the table that writes their bytes, cases by the
-- number of bytes, and that number.
-- Assumes nothing.
use mathlib.Core.Path.{◌≡◌, refl, sym, subst, ◌∙◌}
use mathlib.Core.Logic.{⊎_elim}
use mathlib.Core.Bool.{Bool, true, false, ◌&&◌, true≢false}
use mathlib.Core.List.{List, [], ◌∷◌, ◌++◌}
use Prim.Native.Nat.{ℕ, zero, suc, ◌+◌, ◌/◌, ◌<◌, ◌≤◌}
use native.Mathlib.Nat.{zero-add}
use native.Mathlib.Omega.{arith}
use lib.ListN.{length, take, drop}
use lib.Dec.{leb, ltb}
use borrow.Author.Tests.{lt-ltb, le-ltb, le-leb, lt-leb, ltb-true}
use Rattle.luck_text.specs.Bytes.{when◌then◌else◌}
use Rattle.luck_text.proofs.Cases.{if_true, if_false, and_left, and_right, order}
use Rattle.luck_text.proofs.Bytes.{within, below, above}
use Rattle.luck_utf8.specs.Utf8.{is_char, Form, rfc2279, last_code, six_bits, bytes_by, utf8_bytes}

pub by_order : {P : Type 0} (a b : ℕ) → (a < b → P) → (b ≤ a → P) → P
by_order a b f g = ⊎_elim f g (order a b)

-- Which code points have a character.
pub not_both : {b : Bool} → b ≡ true → b ≡ false → ⊥
not_both e f = true≢false (sym e ∙ f)

module _ (c : ℕ) where
  is_low : c < 0xD800 → is_char c ≡ true
  unfolding is_char
  is_low h = rw (lt-ltb c 0xD800 h)

  is_high : 0xE000 ≤ c → c < 0x110000 → is_char c ≡ true
  unfolding is_char
  is_high l h = rw (le-ltb c 0xD800 (omega arith)) (within 0xE000 0x10FFFF c l (omega arith))

  pub is_surrogate : 0xD800 ≤ c → c < 0xE000 → is_char c ≡ false
  unfolding is_char
  is_surrogate l h = rw (le-ltb c 0xD800 l) (below 0xE000 0x10FFFF c h)

  pub is_large : 0x110000 ≤ c → is_char c ≡ false
  unfolding is_char
  is_large l = rw (le-ltb c 0xD800 (omega arith)) (above 0xE000 0x10FFFF c l)

  -- what it says of the code point
  pub char_below : is_char c ≡ true → c < 0x110000
  char_below e = by_order c 0x110000 (λ h. h) (λ l. absurd (not_both e (is_large l)))

  pub not_low : is_char c ≡ false → 0xD800 ≤ c
  not_low e = by_order c 0xD800 (λ h. absurd (not_both (is_low h) e)) (λ l. l)

  pub below_high : is_char c ≡ false → c < 0x110000 → c < 0xE000
  below_high e h = by_order c 0xE000 (λ g. g) (λ l. absurd (not_both (is_high l h) e))

  pub above_high : is_char c ≡ false → 0xE000 ≤ c → 0x110000 ≤ c
  above_high e l = by_order c 0x110000 (λ h. absurd (not_both (is_high l h) e)) (λ g. g)

-- The bytes.
pub six_bits_length : (mark n c : ℕ) (after : List ℕ) → length (six_bits mark n c after) ≡ suc n + length after
unfolding six_bits
six_bits_length mark zero c after = omega arith
six_bits_length mark (suc n) c after = six_bits_length mark n (c / 0x40) _ ∙ omega arith

pub six_bits_append : (mark n c : ℕ) (after more : List ℕ)
    → six_bits mark n c (after ++ more) ≡ six_bits mark n c after ++ more
unfolding six_bits
six_bits_append mark zero c after more = refl
six_bits_append mark (suc n) c after more = six_bits_append mark n (c / 0x40) _ more

module _ (c : ℕ) where
  -- The row of a code point.
  row_holds : (r : Form) (rows : List Form) → c ≤ r.last → bytes_by (r ∷ rows) c ≡ six_bits r.mark r.following c []
  unfolding bytes_by
  row_holds r rows h = if_true _ _ _ (le-leb c r.last h)

  row_below : (r : Form) (rows : List Form) → r.last < c → bytes_by (r ∷ rows) c ≡ bytes_by rows c
  unfolding bytes_by
  row_below r rows h = if_false _ _ _ (lt-leb c r.last h)

  -- the first rows end below it
  abbrev end_below : ℕ → List Form → Bool
  end_below bound [] = true
  end_below bound (r ∷ rows) = ltb r.last bound && end_below bound rows

  rows_below : (bound n : ℕ) (rows : List Form) → end_below bound (take n rows) ≡ true → bound ≤ c
      → bytes_by rows c ≡ bytes_by (drop n rows) c
  rows_below bound zero rows e h = refl
  rows_below bound (suc n) [] e h = refl
  rows_below bound (suc n) (r ∷ rows) e h =
      let l = ltb-true r.last bound (and_left _ (end_below bound (take n rows)) e) in
      row_below r rows (omega arith) ∙ rows_below bound n rows (and_right (ltb r.last bound) _ e) h

  pub one_byte : c < 0x80 → utf8_bytes c ≡ c ∷ []
  unfolding utf8_bytes rfc2279 six_bits
  one_byte h = row_holds _ _ (omega arith) ∙ rw (zero-add c)

  pub two_bytes : 0x80 ≤ c → c < 0x800 → utf8_bytes c ≡ six_bits 0xC0 1 c []
  unfolding utf8_bytes rfc2279
  two_bytes l h = rows_below 0x80 1 rfc2279 refl l ∙ row_holds _ _ (omega arith)

  pub three_bytes : 0x800 ≤ c → c < 0x10000 → utf8_bytes c ≡ six_bits 0xE0 2 c []
  unfolding utf8_bytes rfc2279
  three_bytes l h = rows_below 0x800 2 rfc2279 refl l ∙ row_holds _ _ (omega arith)

  pub four_bytes : 0x10000 ≤ c → c < 0x20_0000 → utf8_bytes c ≡ six_bits 0xF0 3 c []
  unfolding utf8_bytes rfc2279
  four_bytes l h = rows_below 0x10000 3 rfc2279 refl l ∙ row_holds _ _ (omega arith)

  pub five_bytes : 0x20_0000 ≤ c → c < 0x400_0000 → utf8_bytes c ≡ six_bits 0xF8 4 c []
  unfolding utf8_bytes rfc2279
  five_bytes l h = rows_below 0x20_0000 4 rfc2279 refl l ∙ row_holds _ _ (omega arith)

  pub six_bytes : 0x400_0000 ≤ c → c ≤ last_code → utf8_bytes c ≡ six_bits 0xFC 5 c []
  unfolding utf8_bytes rfc2279
  six_bytes l h = rows_below 0x400_0000 5 rfc2279 refl l ∙ row_holds _ _ h

  pub no_bytes : last_code < c → utf8_bytes c ≡ []
  unfolding utf8_bytes rfc2279 bytes_by
  no_bytes h = rows_below 0x8000_0000 6 rfc2279 refl h

  -- what holds of each row's bytes holds of those of the code point
  pub by_row : (P : List ℕ → Type 0)
      → (c < 0x80 → P (c ∷ []))
      → (0x80 ≤ c → c < 0x800 → P (six_bits 0xC0 1 c []))
      → (0x800 ≤ c → c < 0x10000 → P (six_bits 0xE0 2 c []))
      → (0x10000 ≤ c → c < 0x20_0000 → P (six_bits 0xF0 3 c []))
      → (0x20_0000 ≤ c → c < 0x400_0000 → P (six_bits 0xF8 4 c []))
      → (0x400_0000 ≤ c → c ≤ last_code → P (six_bits 0xFC 5 c []))
      → (last_code < c → P [])
      → P (utf8_bytes c)
  by_row P one two three four five six none =
      by_order c 0x80 (λ h. subst P (sym (one_byte h)) (one h)) (λ l₁.
      by_order c 0x800 (λ h. subst P (sym (two_bytes l₁ h)) (two l₁ h)) (λ l₂.
      by_order c 0x10000 (λ h. subst P (sym (three_bytes l₂ h)) (three l₂ h)) (λ l₃.
      by_order c 0x20_0000 (λ h. subst P (sym (four_bytes l₃ h)) (four l₃ h)) (λ l₄.
      by_order c 0x400_0000 (λ h. subst P (sym (five_bytes l₄ h)) (five l₄ h)) (λ l₅.
      by_order last_code c (λ h. subst P (sym (no_bytes h)) (none h))
      (λ h. subst P (sym (six_bytes l₅ h)) (six l₅ h)))))))

  pub few_bytes : length (utf8_bytes c) ≤ 6
  unfolding six_bits
  few_bytes =
      by_row (λ (bytes : List ℕ). length bytes ≤ 6) (λ h. omega arith) (λ l h. omega arith) (λ l h. omega arith)
      (λ l h. omega arith) (λ l h. omega arith) (λ l h. omega arith) (λ h. omega arith)

  pub some_byte : c ≤ last_code → 0 < length (utf8_bytes c)
  unfolding six_bits
  some_byte last =
      by_row (λ (bytes : List ℕ). 0 < length bytes) (λ h. omega arith) (λ l h. omega arith) (λ l h. omega arith)
      (λ l h. omega arith) (λ l h. omega arith) (λ l h. omega arith) (λ h. absurd (omega arith))

  -- the number of bytes that the rows say
  abbrev pub count_by : List Form → ℕ
  count_by [] = 0
  count_by (r ∷ rows) = when leb c r.last then suc r.following else count_by rows

  length_if : (t : Bool) (x y : List ℕ) (m n : ℕ) → length x ≡ m → length y ≡ n
      → length (when t then x else y) ≡ (when t then m else n)
  unfolding when◌then◌else◌
  length_if true x y m n e f = e
  length_if false x y m n e f = f

  pub length_by : (rows : List Form) → length (bytes_by rows c) ≡ count_by rows
  unfolding bytes_by
  length_by [] = refl
  length_by (r ∷ rows) =
      length_if (leb c r.last) _ _ _ _ (six_bits_length r.mark r.following c [] ∙ omega arith) (length_by rows)
