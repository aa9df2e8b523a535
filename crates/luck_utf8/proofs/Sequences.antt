-- The laws of UTF-8: the row of a first byte, the bytes that follow it, what a well-formed sequence says of its bytes,
-- the walk at a sequence and over a run of ASCII bytes, and the character at a place.
-- Assumes nothing.
use Rattle.std.specs.Prelude.{Option, None, Some}
use mathlib.Core.Path.{◌≡◌, refl, sym, ap, ◌∙◌}
use mathlib.Core.Logic.{⊎_elim}
use mathlib.Core.Bool.{Bool, true, false, ◌&&◌, not}
use mathlib.Core.List.{List, [], ◌∷◌}
use Prim.Native.Nat.{ℕ, zero, suc, ◌+◌, ◌*◌, ◌-◌, ◌<◌, ◌≤◌}
use native.Mathlib.Nat.{add-zero}
use native.Mathlib.Omega.{arith}
use lib.ListN.{length, take, drop}
use lib.Dec.{leb, ltb}
use borrow.Author.Tests.{lt-ltb, le-ltb, le-leb, lt-leb, ne_eqb, ltb-true, leb-true, leb-false, not-true, not-false}
use Rattle.luck_text.specs.Bytes.{when◌then◌else◌, byte_at, part}
use Rattle.luck_text.specs.Walk.{walk_from}
use Rattle.luck_utf8.specs.Utf8.{Range, Row, tail, rfc3629, in_range, tails_of, follow, width_by, sequence}
use Rattle.luck_utf8.specs.Utf8.{sequence_at, none_ill_formed, code_point, char_at}
use Rattle.luck_text.proofs.Cases.{if_true, if_false, and_left, and_right, second_false, order, present}
use Rattle.luck_text.proofs.Bytes.{all_of_part}
use Rattle.luck_text.proofs.Walk.{walk_stop, walk_goes}

-- The row of a first byte.
module _ (b : ℕ) where
  pub row_holds : (r : Row) (rows : List Row) → r.lead.low ≤ b → b ≤ r.lead.high → tails_of (r ∷ rows) b ≡ Some r.tails
  unfolding tails_of when◌then◌else◌
  row_holds r rows l h = rw (le-leb r.lead.low b l, le-leb b r.lead.high h)

  row_below : (r : Row) (rows : List Row) → r.lead.high < b → tails_of (r ∷ rows) b ≡ tails_of rows b
  unfolding tails_of
  row_below r rows h = if_false (in_range r.lead b) _ _ (second_false (leb r.lead.low b) _ (lt-leb b r.lead.high h))

  row_above : (r : Row) (rows : List Row) → b < r.lead.low → tails_of (r ∷ rows) b ≡ tails_of rows b
  unfolding tails_of when◌then◌else◌
  row_above r rows h = rw (lt-leb r.lead.low b h)

  module _ (bound : ℕ) where
    abbrev end_below : List Row → Bool
    end_below [] = true
    end_below (r ∷ rows) = ltb r.lead.high bound && end_below rows

    abbrev start_above : List Row → Bool
    start_above [] = true
    start_above (r ∷ rows) = leb bound r.lead.low && start_above rows

    -- the first rows end below the byte
    pub rows_below : (n : ℕ) (rows : List Row) → end_below (take n rows) ≡ true → bound ≤ b → tails_of rows b ≡ tails_of (drop n rows) b
    rows_below zero rows e h = refl
    rows_below (suc n) [] e h = refl
    rows_below (suc n) (r ∷ rows) e h =
        let l = ltb-true r.lead.high bound (and_left _ (end_below (take n rows)) e) in
        row_below r rows (omega arith) ∙ rows_below n rows (and_right (ltb r.lead.high bound) _ e) h

    -- all rows start above the byte
    pub rows_above : (rows : List Row) → start_above rows ≡ true → b < bound → tails_of rows b ≡ None
    unfolding tails_of
    rows_above [] e h = refl
    rows_above (r ∷ rows) e h =
        let l = leb-true bound r.lead.low (and_left _ (start_above rows) e) in
        row_above r rows (omega arith) ∙ rows_above rows (and_right (leb bound r.lead.low) _ e) h

  pub no_row_low : 0x80 ≤ b → b < 0xC2 → tails_of rfc3629 b ≡ None
  unfolding rfc3629
  no_row_low l h = rows_below 0x80 1 rfc3629 refl l ∙ rows_above 0xC2 (drop 1 rfc3629) refl h

  pub no_row_high : 0xF5 ≤ b → tails_of rfc3629 b ≡ None
  unfolding rfc3629 tails_of
  no_row_high l = rows_below 0xF5 9 rfc3629 refl l

  pub row_two : 0xC2 ≤ b → b < 0xE0 → tails_of rfc3629 b ≡ Some (tail ∷ [])
  unfolding rfc3629
  row_two l h = rows_below 0x80 1 rfc3629 refl (omega arith) ∙ row_holds _ _ l (omega arith)

  -- the rows between E0 and ED, and between ED and F0, have the same tails
  pub row_three : 0xE0 ≤ b → (b ≡ 0xE0 → ⊥) → (b ≡ 0xED → ⊥) → b < 0xF0 → tails_of rfc3629 b ≡ Some (tail ∷ tail ∷ [])
  unfolding rfc3629
  row_three l f g h =
      ⊎_elim (λ under. rows_below 0xE1 3 rfc3629 refl (omega arith) ∙ row_holds _ _ (omega arith) (omega arith))
      (λ over. rows_below 0xEE 5 rfc3629 refl (omega arith) ∙ row_holds _ _ (omega arith) (omega arith)) (order b 0xED)

  pub row_four : 0xF0 ≤ b → (b ≡ 0xF0 → ⊥) → (b ≡ 0xF4 → ⊥) → b < 0xF5 → tails_of rfc3629 b ≡ Some (tail ∷ tail ∷ tail ∷ [])
  unfolding rfc3629
  row_four l f g h = rows_below 0xF1 7 rfc3629 refl (omega arith) ∙ row_holds _ _ (omega arith) (omega arith)

-- The bytes that follow.
module _ (text : List ℕ) where
  pub follow_short : (r : Range) (ranges : List Range) (p : ℕ) → length text < p + suc (length ranges) → follow text p (r ∷ ranges) ≡ false
  unfolding follow
  follow_short r [] p h = rw (le-ltb p (length text) (omega arith))
  follow_short r (r' ∷ ranges) p h = second_false (ltb p (length text) && in_range r (byte_at text p)) _ (follow_short r' ranges (p + 1) (omega arith))

  pub follow_end : (p : ℕ) → follow text p [] ≡ true
  unfolding follow
  follow_end p = refl

  module _ (p k : ℕ) (r : Range) (ranges : List Range) where
    pub follow_out : in_range r (byte_at text (p + k)) ≡ false → follow text (p + k) (r ∷ ranges) ≡ false
    unfolding follow
    follow_out e = let f = second_false (ltb (p + k) (length text)) _ e in rw f

    pub follow_in : p + k < length text → in_range r (byte_at text (p + k)) ≡ true → follow text (p + k) (r ∷ ranges) ≡ follow text (p + (k + 1)) ranges
    unfolding follow
    follow_in h e = let q : p + k + 1 ≡ p + (k + 1) = omega arith in rw (lt-ltb (p + k) (length text) h, e, q)

  module _ (p : ℕ) where
    pub sequence_past : length text ≤ p → sequence text p ≡ 0
    unfolding sequence
    sequence_past h = if_false (ltb p (length text)) _ _ (le-ltb p (length text) h)

    there : p < length text → sequence text p ≡ width_by text p (tails_of rfc3629 (byte_at text p))
    unfolding sequence
    there h = if_true (ltb p (length text)) _ _ (lt-ltb p (length text) h)

    pub sequence_none : p < length text → tails_of rfc3629 (byte_at text p) ≡ None → sequence text p ≡ 0
    unfolding width_by
    sequence_none h e = there h ∙ ap (width_by text p) e

    module _ (tails : List Range) (h : p < length text) (e : tails_of rfc3629 (byte_at text p) ≡ Some tails) where
      pub sequence_refused : follow text (p + 1) tails ≡ false → sequence text p ≡ 0
      unfolding width_by
      sequence_refused f = there h ∙ ap (width_by text p) e ∙ if_false (follow text (p + 1) tails) _ _ f

      pub sequence_accepted : follow text (p + 1) tails ≡ true → sequence text p ≡ suc (length tails)
      unfolding width_by
      sequence_accepted f = there h ∙ ap (width_by text p) e ∙ if_true (follow text (p + 1) tails) _ _ f

    pub sequence_ascii : p < length text → byte_at text p < 0x80 → sequence text p ≡ 1
    unfolding rfc3629
    sequence_ascii h l = sequence_accepted [] h (row_holds (byte_at text p) _ _ (omega arith) (omega arith)) (follow_end (p + 1))

-- What is left of the sequence at p: the bytes before p + k fit its row, those from there on have to fit the ranges, and then it has n bytes.
pub record Left (text : List ℕ) (p k n : ℕ) (ranges : List Range) : Type 0 where
  pub whole : sequence text p ≡ (when follow text (p + k) ranges then n else 0)

module _ {text : List ℕ} {p : ℕ} where
  pub left_row : {tails : List Range} → p < length text → tails_of rfc3629 (byte_at text p) ≡ Some tails → Left text p 1 (suc (length tails)) tails
  unfolding width_by
  left_row h e = record { whole = there text p h ∙ ap (width_by text p) e }

  module _ {k n : ℕ} where
    left_false : {ranges : List Range} → Left text p k n ranges → follow text (p + k) ranges ≡ false → 0 ≡ sequence text p
    left_false {ranges} l f = sym (l.whole ∙ if_false (follow text (p + k) ranges) _ _ f)

    pub left_end : Left text p k n [] → n ≡ sequence text p
    left_end l = sym (l.whole ∙ if_true (follow text (p + k) []) _ _ (follow_end text (p + k)))

    module _ {r : Range} {ranges : List Range} (l : Left text p k n (r ∷ ranges)) where
      pub left_short : length text < p + k + suc (length ranges) → 0 ≡ sequence text p
      left_short h = left_false l (follow_short text r ranges (p + k) h)

      -- by a test of the next byte
      module _ {b : Bool} (e : b ≡ in_range r (byte_at text (p + k))) where
        pub left_out : not b ≡ true → 0 ≡ sequence text p
        left_out t = left_false l (follow_out text p k r ranges (sym e ∙ not-true b t))

        pub left_in : not b ≡ false → p + k < length text → Left text p (k + 1) n ranges
        left_in t h =
            record { whole = l.whole ∙ ap (λ (f : Bool). when f then n else 0) (follow_in text p k r ranges h (sym e ∙ not-false b t)) }

-- What a well-formed sequence says of its bytes.

-- the least first byte that so many bytes follow
abbrev pub least : ℕ → ℕ
least zero = 0
least (suc zero) = 0xC0
least (suc (suc zero)) = 0xE0
least (suc (suc (suc n))) = 0xF0

abbrev high_tails : List Range → Bool
high_tails [] = true
high_tails (r ∷ ranges) = leb 0x80 r.low && high_tails ranges

abbrev high_rows : List Row → Bool
high_rows [] = true
high_rows (r ∷ rows) = (leb (least (length r.tails)) r.lead.low && high_tails r.tails) && high_rows rows

no_tails : (tails : List Range) → None ≡ Some tails → ⊥
no_tails tails e = let z : ◌≡◌ {A = ℕ} 0 1 = cc in omega arith

tails_of_row : (rows : List Row) (b : ℕ) (tails : List Range) → high_rows rows ≡ true → tails_of rows b ≡ Some tails
    → (least (length tails) ≤ b) × (high_tails tails ≡ true)
unfolding tails_of
tails_of_row [] b tails s e = absurd (no_tails tails e)
tails_of_row (r ∷ rows) b tails s e =
    go (λ o. tails_of_row rows b tails (and_right (leb (least (length r.tails)) r.lead.low && high_tails r.tails) _ s) o) (in_range r.lead b) refl
  where
    some_same : Some r.tails ≡ Some tails → r.tails ≡ tails
    some_same q = cc

    go : (tails_of rows b ≡ Some tails → (least (length tails) ≤ b) × (high_tails tails ≡ true)) → (t : Bool) → in_range r.lead b ≡ t
        → (least (length tails) ≤ b) × (high_tails tails ≡ true)
    go later true i =
        let here = and_left _ (high_rows rows) s in
        let l = leb-true r.lead.low b (and_left _ (leb b r.lead.high) i) in
        let m = leb-true (least (length r.tails)) r.lead.low (and_left _ (high_tails r.tails) here) in
        let same : r.tails ≡ tails = some_same (sym (if_true (in_range r.lead b) _ _ i) ∙ e) in
        rw (← same) (omega arith, and_right (leb (least (length r.tails)) r.lead.low) _ here)
    go later false i = later (sym (if_false (in_range r.lead b) _ _ i) ∙ e)

-- the first byte that three or more bytes follow
least_last : (n : ℕ) → 3 ≤ n → least n ≡ 0xF0
least_last zero h = absurd (omega arith)
least_last (suc zero) h = absurd (omega arith)
least_last (suc (suc zero)) h = absurd (omega arith)
least_last (suc (suc (suc n))) h = refl

pub record Formed (text : List ℕ) (p w : ℕ) : Type 0 where
  pub first : least (w - 1) ≤ byte_at text p
  pub more : (k : ℕ) → 0 < k → k < w → 0x80 ≤ byte_at text (p + k)
  pub inside : p + w ≤ length text

module _ {text : List ℕ} {p w : ℕ} (f : Formed text p w) where
  pub first_of : (n : ℕ) → w ≡ suc n → least n ≤ byte_at text p
  first_of n e = let m : w - 1 ≡ n = omega arith in rw m at f.first

  pub first_of_four : 3 < w → 0xF0 ≤ byte_at text p
  first_of_four h = rw (least_last (w - 1) (omega arith)) at f.first

module _ (text : List ℕ) where
  tails_high : (tails : List Range) (p : ℕ) → high_tails tails ≡ true → follow text p tails ≡ true
      → (k : ℕ) → k < length tails → 0x80 ≤ byte_at text (p + k)
  unfolding follow
  tails_high [] p s f k h = absurd (omega arith)
  tails_high (r ∷ ranges) p s f zero h =
      let i = and_right (ltb p (length text)) _ (and_left _ (follow text (p + 1) ranges) f) in
      let l = leb-true r.low (byte_at text p) (and_left _ (leb (byte_at text p) r.high) i) in
      let m = leb-true 0x80 r.low (and_left _ (high_tails ranges) s) in
      rw (add-zero p) (omega arith)
  tails_high (r ∷ ranges) p s f (suc k) h =
      let rest = and_right (ltb p (length text) && in_range r (byte_at text p)) _ f in
      let q : p + 1 + k ≡ p + suc k = omega arith in
      rw (← q) (tails_high ranges (p + 1) (and_right (leb 0x80 r.low) _ s) rest k (omega arith))

  module _ (p : ℕ) where
    accepted : (tails : List Range) → p < length text → tails_of rfc3629 (byte_at text p) ≡ Some tails → follow text (p + 1) tails ≡ true
        → Formed text p (suc (length tails))
    unfolding rfc3629
    accepted tails h e f =
        let s = tails_of_row rfc3629 (byte_at text p) tails refl e in
        let high : (k : ℕ) → 0 < k → k < suc (length tails) → 0x80 ≤ byte_at text (p + k) =
        λ k l m. let q : p + 1 + (k - 1) ≡ p + k = omega arith in rw (← q) (tails_high tails (p + 1) s.1 f (k - 1) (omega arith)) in
        let n : suc (length tails) - 1 ≡ length tails = omega arith in
        record { first = rw n s.0; more = high; inside = last (length tails) high }
      where
        last : (n : ℕ) → ((k : ℕ) → 0 < k → k < suc n → 0x80 ≤ byte_at text (p + k)) → p + suc n ≤ length text
        last zero g = omega arith
        last (suc n) g =
            let l : 0x80 ≤ byte_at text (p + suc n) = g (suc n) (omega arith) (omega arith) in
            let m : p + suc n < length text = present text (p + suc n) (omega arith) in omega arith

    pub formed : (w : ℕ) → w ≡ sequence text p → (w ≡ 0 → ⊥) → Formed text p w
    formed w e f = ⊎_elim (λ h. by_row h (tails_of rfc3629 (byte_at text p)) refl) (λ h. absurd (f (e ∙ sequence_past text p h))) (order p (length text))
      where
        by_follow : (tails : List Range) → p < length text → tails_of rfc3629 (byte_at text p) ≡ Some tails
            → (t : Bool) → follow text (p + 1) tails ≡ t → Formed text p w
        by_follow tails h r true q = rw (e ∙ sequence_accepted text p tails h r q) (accepted tails h r q)
        by_follow tails h r false q = absurd (f (e ∙ sequence_refused text p tails h r q))

        by_row : p < length text → (o : Option (List Range)) → tails_of rfc3629 (byte_at text p) ≡ o → Formed text p w
        by_row h None r = absurd (f (e ∙ sequence_none text p h r))
        by_row h (Some tails) r = by_follow tails h r (follow text (p + 1) tails) refl

  -- The walk.
  module _ (p w : ℕ) (e : w ≡ sequence text p) where
    pub walk_ill_formed : p < length text → w ≡ 0 → walk_from (sequence_at text) none_ill_formed (length text) p tt ≡ Some p
    unfolding sequence_at when◌then◌else◌
    walk_ill_formed h z = walk_stop (sequence_at text) none_ill_formed (length text) p tt (Some p) h (rw (← e, z))

    pub walk_sequence : (w ≡ 0 → ⊥) → p + w ≤ length text
        → walk_from (sequence_at text) none_ill_formed (length text) p tt ≡ walk_from (sequence_at text) none_ill_formed (length text) (p + w) tt
    unfolding sequence_at when◌then◌else◌
    walk_sequence f h = walk_goes (sequence_at text) none_ill_formed (length text) p tt w tt (omega arith) h (rw (← e, ne_eqb w 0 f))

  ascii_run : (n p : ℕ) → p + n ≤ length text → ((k : ℕ) → p ≤ k → k < p + n → byte_at text k < 0x80)
      → walk_from (sequence_at text) none_ill_formed (length text) p tt ≡ walk_from (sequence_at text) none_ill_formed (length text) (p + n) tt
  ascii_run zero p h g = rw (add-zero p)
  ascii_run (suc n) p h g =
      let one = sym (sequence_ascii text p (omega arith) (g p (omega arith) (omega arith))) in
      let q : p + 1 + n ≡ p + suc n = omega arith in
      walk_sequence p 1 one (λ z. omega arith) (omega arith)
      ∙ ascii_run n (p + 1) (omega arith) (λ k l m. g k (omega arith) (omega arith))
      ∙ ap (λ (x : ℕ). walk_from (sequence_at text) none_ill_formed (length text) x tt) q

  -- a run of ASCII bytes is passed by the walk
  pub walk_ascii : (p q : ℕ) → p ≤ q → q ≤ length text → ((k : ℕ) → p ≤ k → k < q → byte_at text k < 0x80)
      → walk_from (sequence_at text) none_ill_formed (length text) p tt ≡ walk_from (sequence_at text) none_ill_formed (length text) q tt
  walk_ascii p q h l g =
      let e : p + (q - p) ≡ q = omega arith in
      ascii_run (q - p) p (omega arith) (λ k m n. g k m (omega arith))
      ∙ ap (λ (x : ℕ). walk_from (sequence_at text) none_ill_formed (length text) x tt) e

  -- where no byte of a part is 80 or above, the text's bytes there are ASCII
  pub part_low : (at size : ℕ) → at + size ≤ length text
      → ((k : ℕ) → k < length (part text at (at + size)) → leb 0x80 (byte_at (part text at (at + size)) k) ≡ false)
      → (k : ℕ) → at ≤ k → k < at + size → byte_at text k < 0x80
  part_low at size h g = all_of_part (λ (b : ℕ). b < 0x80) text at size h (λ k m. leb-false 0x80 _ (g k m))

-- The character at a place.
module _ (text : List ℕ) (p w : ℕ) (e : w ≡ sequence text p) where
  pub char_missing : w ≡ 0 → record { code = 0xFFFD; width = 1 } ≡ char_at text p
  unfolding char_at when◌then◌else◌
  char_missing z = rw (← e, z)

  found : (w ≡ 0 → ⊥) → char_at text p ≡ record { code = code_point text p w; width = w }
  unfolding char_at when◌then◌else◌
  found f = rw (← e, ne_eqb w 0 f)

  module _ (n : ℕ) where
    coded : (w ≡ 0 → ⊥) → n ≡ code_point text p w → record { code = n; width = w } ≡ char_at text p
    coded f q = rw (found f, q)

    pub char_one : w ≡ 1 → n ≡ byte_at text p → record { code = n; width = w } ≡ char_at text p
    unfolding code_point when◌then◌else◌
    char_one z q = coded (λ o. omega arith) (rw z q)

    pub char_two : w ≡ 2 → n ≡ (byte_at text p - 0xC0) * 0x40 + (byte_at text (p + 1) - 0x80) → record { code = n; width = w } ≡ char_at text p
    unfolding code_point when◌then◌else◌
    char_two z q = coded (λ o. omega arith) (rw z q)

    pub char_three : (m : ℕ) → w ≡ 3 → m ≡ (byte_at text p - 0xE0) * 0x40 + (byte_at text (p + 1) - 0x80)
        → n ≡ m * 0x40 + (byte_at text (p + 2) - 0x80) → record { code = n; width = w } ≡ char_at text p
    unfolding code_point when◌then◌else◌
    char_three m z q r = coded (λ o. omega arith) (rw (z, ← q) r)

    pub char_four : (l m : ℕ) → 3 < w → l ≡ (byte_at text p - 0xF0) * 0x40 + (byte_at text (p + 1) - 0x80)
        → m ≡ l * 0x40 + (byte_at text (p + 2) - 0x80)
        → n ≡ m * 0x40 + (byte_at text (p + 3) - 0x80) → record { code = n; width = w } ≡ char_at text p
    unfolding code_point when◌then◌else◌
    char_four l m h q r t =
        coded (λ z. omega arith)
        (rw (ne_eqb w 1 (λ z. omega arith), ne_eqb w 2 (λ z. omega arith), ne_eqb w 3 (λ z. omega arith), ← q, ← r) t)
