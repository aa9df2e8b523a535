-- The classes by a table of masks: what the bits of a byte's mask say is what the test of the class says, at each of the 256 bytes, and of what is no byte.
-- Assumes nothing.
use Rattle.std.specs.Prelude.{Option, None, Some}
use Prim.Native.Nat.{ℕ, zero, suc, ◌+◌, ◌≤◌, ◌<◌}
use Prim.Native.Char.{code}
use native.Mathlib.Omega.{arith}
use mathlib.Core.Path.{◌≡◌, refl, sym, ap, fun_ext, ◌∙◌}
use mathlib.Core.Logic.{⊎_elim}
use mathlib.Core.Bool.{Bool, true, false, not, ◌&&◌}
use mathlib.Core.List.{List}
use lib.Bits.{bit_and, and_zero_l}
use lib.ListN.{length, get_or-eq_default}
use lib.Dec.{eqb, ltb, leb}
use borrow.Author.Tests.{eq-eqb, ne_eqb, eqb-true, eqb-false, lt-ltb, le-ltb, ltb-true, ltb-false, lt-leb, leb-true}
use Rattle.luck_text.specs.Bytes.{when◌then◌else◌, byte_at, is_digit, is_xdigit, is_lua_whitespace}
use Rattle.luck_text.proofs.Cases.{by_test, if_false, order, and_left, and_right}
use Rattle.luck_text.proofs.Bytes.{above}
use Rattle.lstr_class.specs.Class.{is_lower, is_upper, is_alpha, is_alnum, is_cntrl, is_graph, is_punct, to_lower, class_test, class_by, match_class, class_of}
use Rattle.lstr_class.specs.Inner.{bit, mask_of, class_bits, bits_of, mask_in, bits_in, by_mask, class_in}

-- ---- A test of every number below n, computed

abbrev every_below : ℕ → (ℕ → Bool) → Bool
every_below zero test = true
every_below (suc n) test = test n && every_below n test

each : (n : ℕ) (test : ℕ → Bool) → every_below n test ≡ true → (c : ℕ) → c < n → test c ≡ true
each zero test e c h = absurd (omega arith)
each (suc n) test e c h =
    ⊎_elim (λ l. each n test (and_right (test n) (every_below n test) e) c l)
    (λ g. let s : c ≡ n = omega arith in rw s (and_left (test n) (every_below n test) e)) (order c n)

-- ---- What is no byte is in no class

module _ (c : ℕ) (h : 256 ≤ c) where
  high_lower : is_lower c ≡ false
  unfolding is_lower
  high_lower = above (code "a") (code "z") c (omega arith)

  high_upper : is_upper c ≡ false
  unfolding is_upper
  high_upper = above (code "A") (code "Z") c (omega arith)

  high_digit : is_digit c ≡ false
  unfolding is_digit
  high_digit = above (code "0") (code "9") c (omega arith)

  high_alpha : is_alpha c ≡ false
  unfolding is_alpha
  high_alpha = rw (high_lower, high_upper)

  high_alnum : is_alnum c ≡ false
  unfolding is_alnum
  high_alnum = rw (high_alpha, high_digit)

  high_cntrl : is_cntrl c ≡ false
  unfolding is_cntrl
  high_cntrl = rw (lt-leb c 0x1F (omega arith), ne_eqb c 0x7F (λ e. omega arith))

  high_graph : is_graph c ≡ false
  unfolding is_graph
  high_graph = above (code "!") (code "~") c (omega arith)

  high_punct : is_punct c ≡ false
  unfolding is_punct
  high_punct = rw high_graph

  high_space : is_lua_whitespace c ≡ false
  unfolding is_lua_whitespace
  high_space = rw (ne_eqb c (code " ") (λ e. omega arith), above (code "\t") (code "\r") c (omega arith))

  high_xdigit : is_xdigit c ≡ false
  unfolding is_xdigit
  high_xdigit = rw (high_digit, above (code "a") (code "f") c (omega arith), above (code "A") (code "F") c (omega arith))

  high_zero : eqb c 0 ≡ false
  high_zero = ne_eqb c 0 (λ e. omega arith)

  high_mask : mask_of c ≡ 0
  unfolding mask_of bit
  high_mask = rw (high_cntrl, high_digit, high_lower, high_punct, high_space, high_upper, high_xdigit, high_zero)

-- ---- The bits of a class

-- the mask of the byte c has one of the bits
abbrev marked : ℕ → ℕ → Bool
marked bits c = not (eqb (bit_and (mask_of c) bits) 0)

abbrev same : Bool → Bool → Bool
same true b = b
same false b = not b

same_eq : (a b : Bool) → same a b ≡ true → a ≡ b
same_eq true b e = sym e
same_eq false true e = e
same_eq false false e = refl

-- a class's test says what its bits say, computed at each byte
rule : (bits : ℕ) (test : ℕ → Bool) → every_below 256 (λ c. same (test c) (marked bits c)) ≡ true → ((c : ℕ) → 256 ≤ c → test c ≡ false)
    → (c : ℕ) → test c ≡ marked bits c
rule bits test e high c =
    ⊎_elim (λ h. same_eq (test c) (marked bits c) (each 256 (λ c. same (test c) (marked bits c)) e c h))
    (λ h. high c h ∙ sym (ap (λ (m : ℕ). not (eqb (bit_and m bits) 0)) (high_mask c h) ∙ ap (λ (x : ℕ). not (eqb x 0)) (and_zero_l bits))) (order c 256)

unfoldable by_bits : ℕ → ℕ → Option Bool
by_bits bits c = when eqb bits 0 then None else Some (marked bits c)

-- two choices by the same test
choice : {A B : Type 0} (f : A → B) (t : Bool) (x y : B) (u v : A) → x ≡ f u → y ≡ f v → (when t then x else y) ≡ f (when t then u else v)
unfolding when◌then◌else◌
choice f true x y u v e d = e
choice f false x y u v e d = d

-- the rule of the masks, for every letter and every byte
by_bits_lem : (letter c : ℕ) → class_test letter c ≡ by_bits (class_bits letter) c
unfolding class_test class_bits by_bits when◌then◌else◌ mask_of bit is_lower is_upper is_alpha is_alnum is_cntrl is_graph is_punct is_lua_whitespace is_digit is_xdigit
by_bits_lem letter c =
    choice f (eqb letter (code "a")) _ _ _ _ (ap Some (rule 36 is_alpha refl high_alpha c))
    (choice f (eqb letter (code "c")) _ _ _ _ (ap Some (rule 1 is_cntrl refl high_cntrl c))
    (choice f (eqb letter (code "d")) _ _ _ _ (ap Some (rule 2 is_digit refl high_digit c))
    (choice f (eqb letter (code "g")) _ _ _ _ (ap Some (rule 46 is_graph refl high_graph c))
    (choice f (eqb letter (code "l")) _ _ _ _ (ap Some (rule 4 is_lower refl high_lower c))
    (choice f (eqb letter (code "p")) _ _ _ _ (ap Some (rule 8 is_punct refl high_punct c))
    (choice f (eqb letter (code "s")) _ _ _ _ (ap Some (rule 16 is_lua_whitespace refl high_space c))
    (choice f (eqb letter (code "u")) _ _ _ _ (ap Some (rule 32 is_upper refl high_upper c))
    (choice f (eqb letter (code "w")) _ _ _ _ (ap Some (rule 38 is_alnum refl high_alnum c))
    (choice f (eqb letter (code "x")) _ _ _ _ (ap Some (rule 64 is_xdigit refl high_xdigit c))
    (choice f (eqb letter (code "z")) _ _ _ _ (ap Some (rule 128 (λ c. eqb c 0) refl high_zero c)) refl))))))))))
  where
    f : ℕ → Option Bool
    f bits = by_bits bits c

-- ---- match_class

no_letter : (letter : ℕ) → ((k : ℕ) → k ≤ 25 → letter ≡ code "a" + k → ⊥) → class_bits letter ≡ 0
unfolding class_bits when◌then◌else◌
no_letter letter n =
    rw (no 0 refl, no 2 refl, no 3 refl, no 6 refl, no 11 refl, no 15 refl, no 18 refl, no 20 refl, no 22 refl, no 23 refl, no 25 refl)
  where
    no : (k : ℕ) → leb k 25 ≡ true → eqb letter (code "a" + k) ≡ false
    no k h = ne_eqb letter (code "a" + k) (n k (leb-true k 25 h))

-- what `%` and the byte cl say of the byte c, by the bits of cl and the mask of c
module _ (cl c : ℕ) where
  no_class : bits_of cl ≡ 0 → eqb cl c ≡ match_class cl c
  unfolding match_class class_by bits_of by_bits when◌then◌else◌
  no_class z = rw (by_bits_lem (to_lower cl) c, eq-eqb (class_bits (to_lower cl)) 0 z)

  module _ (n : bits_of cl ≡ 0 → ⊥) where
    in_class : class_test (to_lower cl) c ≡ Some (marked (bits_of cl) c)
    unfolding bits_of by_bits when◌then◌else◌
    in_class = by_bits_lem (to_lower cl) c ∙ rw (ne_eqb (bits_of cl) 0 n)

    -- no byte below `a` is a small letter
    is_capital : cl < code "a" → is_upper cl ≡ true
    unfolding bits_of to_lower
    is_capital l = go (is_upper cl) refl
      where
        go : (t : Bool) → is_upper cl ≡ t → is_upper cl ≡ true
        go true e = e
        go false e = absurd (n (ap class_bits (if_false (is_upper cl) (cl + 32) cl e) ∙ no_letter cl (λ k h d. omega arith)))

    small_class : code "a" ≤ cl → not (eqb (bit_and (mask_of c) (bits_of cl)) 0) ≡ match_class cl c
    unfolding match_class class_by is_upper when◌then◌else◌
    small_class g = rw (in_class, above (code "A") (code "Z") cl (omega arith))

    capital_class : cl < code "a" → eqb (bit_and (mask_of c) (bits_of cl)) 0 ≡ match_class cl c
    unfolding match_class class_by when◌then◌else◌
    capital_class l = rw (in_class, is_capital l) (twice (eqb (bit_and (mask_of c) (bits_of cl)) 0))
      where
        twice : (b : Bool) → b ≡ not (not b)
        twice true = refl
        twice false = refl

  by_mask_lem : by_mask (bits_of cl) (mask_of c) cl c ≡ match_class cl c
  by_mask_lem =
      by_test P (eqb (bits_of cl) 0) _ _ (λ e. no_class (eqb-true (bits_of cl) 0 e))
      (λ n. by_test P (ltb cl (code "a")) _ _ (λ l. capital_class (eqb-false (bits_of cl) 0 n) (ltb-true cl (code "a") l))
      (λ g. small_class (eqb-false (bits_of cl) 0 n) (ltb-false cl (code "a") g)))
    where
      P : Bool → Type 0
      P x = x ≡ match_class cl c

-- ---- The table

-- the mask of the byte c, and the bits of the class that it names
abbrev is_row : List ℕ → ℕ → Bool
is_row table c = eqb (byte_at table c) (mask_of c) && eqb (byte_at table (256 + c)) (bits_of c)

abbrev pub are_classes : List ℕ → Bool
are_classes table = every_below 256 (is_row table) && eqb (length table) 512

module _ (table : List ℕ) (t : are_classes table ≡ true) where
  row : (c : ℕ) → c < 256 → is_row table c ≡ true
  row = each 256 (is_row table) (and_left (every_below 256 (is_row table)) (eqb (length table) 512) t)

  masks_are : (c : ℕ) → mask_in table c ≡ mask_of c
  masks_are c =
      by_test (λ x. x ≡ mask_of c) (ltb c 256) _ _
      (λ l. eqb-true (byte_at table c) (mask_of c) (and_left (eqb (byte_at table c) (mask_of c)) _ (row c (ltb-true c 256 l))))
      (λ g. sym (high_mask c (ltb-false c 256 g)))

  no_bits : (cl : ℕ) → 256 ≤ cl → bits_of cl ≡ 0
  unfolding bits_of to_lower
  no_bits cl h = ap class_bits (if_false (is_upper cl) (cl + 32) cl (high_upper cl h)) ∙ no_letter cl (λ k l d. omega arith)

  bits_are : (cl : ℕ) → bits_in table cl ≡ bits_of cl
  bits_are cl =
      ⊎_elim (λ l. eqb-true (byte_at table (256 + cl)) (bits_of cl) (and_right (eqb (byte_at table cl) (mask_of cl)) _ (row cl l)))
      (λ h.
      let n : length table ≡ 512 = eqb-true (length table) 512 (and_right (every_below 256 (is_row table)) (eqb (length table) 512) t) in
      get_or-eq_default table 0 (omega arith) ∙ sym (no_bits cl h)) (order cl 256)

  -- it stands for the class test of every version's trials
  pub class_of_lem : (version : ℕ) → class_in table ≡ class_of version
  unfolding class_in class_of
  class_of_lem version =
      fun_ext (λ cl. fun_ext (λ c. ap (λ (b : ℕ). by_mask b (mask_in table c) cl c) (bits_are cl) ∙ ap (λ (m : ℕ). by_mask (bits_of cl) m cl c) (masks_are c) ∙ by_mask_lem cl c))

-- ---- A test by the table

module _ (table : List ℕ) (cl c bits : ℕ) (b : bits ≡ bits_in table cl) where
  pub bits_none : bits ≡ 0 → eqb cl c ≡ class_in table cl c
  unfolding class_in when◌then◌else◌
  bits_none z = rw (← b, eq-eqb bits 0 z)

  module _ (h : c < 256) (n : bits ≡ 0 → ⊥) where
    pub bits_capital : cl < code "a" → eqb (bit_and (byte_at table c) bits) 0 ≡ class_in table cl c
    unfolding class_in when◌then◌else◌
    bits_capital l = rw (← b, ne_eqb bits 0 n, lt-ltb cl (code "a") l, lt-ltb c 256 h)

    pub bits_small : code "a" ≤ cl → not (eqb (bit_and (byte_at table c) bits) 0) ≡ class_in table cl c
    unfolding class_in when◌then◌else◌
    bits_small g = rw (← b, ne_eqb bits 0 n, le-ltb cl (code "a") g, lt-ltb c 256 h)
