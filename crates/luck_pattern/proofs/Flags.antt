-- The word of open captures and the list of captures that it stands for: opening one, closing the latest, reading one, and none open.
-- Assumes nothing.
use Rattle.std.specs.Prelude.{None, Some}
use mathlib.Core.Path.{◌≡◌, refl, sym, ap, ◌∙◌}
use mathlib.Core.Bool.{Bool, true, false, ◌&&◌}
use mathlib.Core.List.{List, [], ◌∷◌, ◌++◌}
use Prim.Native.Nat.{ℕ, zero, suc, ◌+◌, ◌-◌, ◌*◌, ◌/◌, ◌%◌, ◌^◌, ◌<◌, ◌≤◌}
use native.Mathlib.Nat.{pow-suc, not-suc-le-zero, le_of_suc-le-suc, div-div-eq-div-mul, div-one, mul_comm, one-mul}
use native.Mathlib.Numerals.{add-one}
use native.Mathlib.Omega.{arith}
use lib.Dec.{eqb, ltb, eqb-suc-zero, lit<}
use lib.ListN.{length, get_or, get_or-eq_default, set}
use lib.Pow.{pow_pos, shl_exact}
use borrow.Author.Tests.{lt-ltb, le-ltb, ne_eqb}
use Rattle.luck_text.proofs.Cases.{if_true, if_false, second_false}
use Rattle.luck_pattern.specs.Captures.{open_by, latest_open, close_at, close_latest, is_closed, all_closed}
use Rattle.luck_pattern.specs.Inner.{flags_of_word, open_one}

pub flags_length : (n w : ℕ) → length (flags_of_word n w) ≡ n
unfolding flags_of_word
flags_length zero w = refl
flags_length (suc n) w = ap suc (flags_length n (w / 2))

pub flags_open : (n w : ℕ) → w < 2 ^ n → flags_of_word (suc n) (w + 2 ^ n) ≡ flags_of_word n w ++ (false ∷ [])
unfolding flags_of_word
flags_open zero w h = let e : w ≡ 0 = omega arith in rw e
flags_open (suc n) w h =
    let p : 2 ^ suc n ≡ 2 ^ n * 2 = pow-suc 2 n in
    let lo : (w + 2 ^ suc n) % 2 ≡ w % 2 = omega arith in
    let hi : (w + 2 ^ suc n) / 2 ≡ w / 2 + 2 ^ n = omega arith in
    let b : w / 2 < 2 ^ n = omega arith in
    rw (lo, hi, flags_open n (w / 2) b)

none_open : (n : ℕ) → latest_open (flags_of_word n 0) ≡ None
unfolding flags_of_word latest_open
none_open zero = refl
none_open (suc n) = rw (none_open n)

pub flags_none : (n w : ℕ) → w ≡ 0 → close_latest (flags_of_word n w) ≡ None
unfolding close_latest
flags_none n w e = rw e (ap (close_at (flags_of_word n 0)) (none_open n))

-- the highest bit of the word is the latest open capture, and without it that one is closed
latest_at : (n w j : ℕ) → w < 2 ^ n → 2 ^ j ≤ w → w < 2 ^ suc j → latest_open (flags_of_word n w) ≡ Some j
unfolding flags_of_word latest_open
latest_at zero w j h l u = let p : 0 < 2 ^ j = pow_pos j in absurd (omega arith)
latest_at (suc n) w zero h l u = let e : w ≡ 1 = omega arith in rw e (ap (open_by false) (none_open n))
latest_at (suc n) w (suc j) h l u =
    let p : 2 ^ suc n ≡ 2 ^ n * 2 = pow-suc 2 n in
    let q : 2 ^ suc j ≡ 2 ^ j * 2 = pow-suc 2 j in
    let r : 2 ^ suc (suc j) ≡ 2 ^ suc j * 2 = pow-suc 2 (suc j) in
    rw (latest_at n (w / 2) j (omega arith) (omega arith) (omega arith))

closed_at : (n w j : ℕ) → w < 2 ^ n → 2 ^ j ≤ w → w < 2 ^ suc j → set (flags_of_word n w) j true ≡ flags_of_word n (w - 2 ^ j)
unfolding flags_of_word
closed_at zero w j h l u = let p : 0 < 2 ^ j = pow_pos j in absurd (omega arith)
closed_at (suc n) w zero h l u = let e : w ≡ 1 = omega arith in rw e refl
closed_at (suc n) w (suc j) h l u =
    let p : 2 ^ suc n ≡ 2 ^ n * 2 = pow-suc 2 n in
    let q : 2 ^ suc j ≡ 2 ^ j * 2 = pow-suc 2 j in
    let r : 2 ^ suc (suc j) ≡ 2 ^ suc j * 2 = pow-suc 2 (suc j) in
    let lo : (w - 2 ^ suc j) % 2 ≡ w % 2 = omega arith in
    let hi : (w - 2 ^ suc j) / 2 ≡ w / 2 - 2 ^ j = omega arith in
    rw (lo, hi, closed_at n (w / 2) j (omega arith) (omega arith) (omega arith))

pub flags_close : (n w j : ℕ) → w < 2 ^ n → 2 ^ j ≤ w → w < 2 ^ suc j → close_latest (flags_of_word n w) ≡ Some (flags_of_word n (w - 2 ^ j))
unfolding close_latest
flags_close n w j h l u = ap (close_at (flags_of_word n w)) (latest_at n w j h l u) ∙ ap Some (closed_at n w j h l u)

pub flags_at : (n w d : ℕ) → d < n → get_or (flags_of_word n w) d false ≡ eqb (w / 2 ^ d % 2) 0
unfolding flags_of_word
flags_at zero w d h = absurd (not-suc-le-zero h)
flags_at (suc n) w zero h = ap (λ (x : ℕ). eqb (x % 2) 0) (sym (div-one w))
flags_at (suc n) w (suc d) h =
    flags_at n (w / 2) d (le_of_suc-le-suc h)
    ∙ ap (λ (x : ℕ). eqb (x % 2) 0) (div-div-eq-div-mul w 2 (2 ^ d) ∙ ap (λ (x : ℕ). w / x) (mul_comm 2 (2 ^ d) ∙ sym (pow-suc 2 d)))

all_closed_lem : (a b w : ℕ) → a ≡ w % 2 → b ≡ w / 2 → (eqb a 0 && eqb b 0) ≡ eqb w 0
all_closed_lem zero zero w p q = let e : w ≡ 0 = omega arith in rw e
all_closed_lem zero (suc b) w p q = eqb-suc-zero b ∙ sym (ne_eqb w 0 (λ e. omega arith))
all_closed_lem (suc a) b w p q = rw (eqb-suc-zero a) (sym (ne_eqb w 0 (λ e. omega arith)))

pub flags_all : (n w : ℕ) → w < 2 ^ n → all_closed (flags_of_word n w) ≡ eqb w 0
unfolding flags_of_word all_closed
flags_all zero w h = let e : w ≡ 0 = omega arith in rw e
flags_all (suc n) w h =
    let p : 2 ^ suc n ≡ 2 ^ n * 2 = pow-suc 2 n in
    rw (flags_all n (w / 2) (omega arith)) (all_closed_lem (w % 2) (w / 2) w refl refl)

-- one bit of a word of 32, as the code's shift has it
pub bit : (k : ℕ) → k < 32 → (1 * 2 ^ k) % 2 ^ 32 ≡ 2 ^ k
bit k h = shl_exact {a = 1} 1 k 32 (lit< tt) (omega arith) ∙ one-mul (2 ^ k)

-- ---- As the code has them

pub opened : (n w : ℕ) → n < 32 → w < 2 ^ n → open_one (flags_of_word n w) ≡ Some (flags_of_word (n + 1) (w + 1 * 2 ^ n % 2 ^ 32))
unfolding open_one
opened n w h b =
    let e : length (flags_of_word n w) ≡ n = flags_length n w in
    if_true _ _ _ (lt-ltb (length (flags_of_word n w)) 32 (omega arith)) ∙ rw (bit n h, add-one) (ap Some (sym (flags_open n w b)))

pub full : (n w : ℕ) → 32 ≤ n → open_one (flags_of_word n w) ≡ None
unfolding open_one
full n w h = let e : length (flags_of_word n w) ≡ n = flags_length n w in if_false _ _ _ (le-ltb (length (flags_of_word n w)) 32 (omega arith))

pub latest_closed : (n w k : ℕ) → w < 2 ^ n → 2 ^ k ≤ w → w < 2 * 2 ^ k → k < 32 → close_latest (flags_of_word n w) ≡ Some (flags_of_word n (w - 1 * 2 ^ k % 2 ^ 32))
latest_closed n w k h l u b =
    let p : 2 ^ suc k ≡ 2 ^ k * 2 = pow-suc 2 k in
    rw (bit k b) (flags_close n w k h l (omega arith))

pub zero_closed : (captures : List Bool) (d : ℕ) → d ≡ 0 → is_closed captures d ≡ false
unfolding is_closed
zero_closed captures d e = rw e

pub unseen_closed : (n w d : ℕ) → n < d → is_closed (flags_of_word n w) d ≡ false
unfolding is_closed
unseen_closed n w d h =
    let len : length (flags_of_word n w) ≡ n = flags_length n w in
    rw (get_or-eq_default {A = Bool} (flags_of_word n w) false {n = d - 1} (omega arith)) (second_false (ltb 0 d) false refl)

pub seen_closed : (n w d : ℕ) → (d ≡ 0 → ⊥) → d ≤ n → is_closed (flags_of_word n w) d ≡ eqb (w / 2 ^ (d - 1) % 2) 0
unfolding is_closed
seen_closed n w d z h = let pos : 0 < d = omega arith in rw (lt-ltb 0 d pos, flags_at n w (d - 1) (omega arith))

-- whether a capture is closed
pub ruleset closings = (zero_closed, unseen_closed, seen_closed)
