-- Singles: the one that stands at a place of the pattern, the bytes that fit it, and how far a repeat of it reaches.
-- Assumes nothing.
use Prim.Native.Nat.{ℕ, zero, suc, ◌+◌, ◌-◌, ◌≤◌, ◌<◌}
use Prim.Native.Char.{code}
use native.Mathlib.Omega.{arith}
use mathlib.Core.Path.{◌≡◌, sym, ◌∙◌}
use mathlib.Core.Bool.{Bool, true, false}
use mathlib.Core.List.{List}
use lib.ListN.{length}
use lib.Dec.{eqb, ltb}
use borrow.Author.Tests.{lt-ltb, le-ltb, ltb-true, ne_eqb}
use Rattle.luck_text.specs.Bytes.{when◌then◌else◌, byte_at}
use Rattle.luck_text.proofs.Cases.{and_left}
use Rattle.luck_pattern.specs.Items.{Set, Single, set_of}
use Rattle.lstr_item.specs.Single.{in_set, fits}
use Rattle.lstr_class.specs.Subject.{byte_before}
use Rattle.lstr_item.specs.Match.{is_frontier, fits_at, Reach, reached, spent, reach}
use Rattle.lstr_item.specs.Inner.{single_of}

-- ---- The single at place p

module _ (in_class : ℕ → ℕ → Bool) (sub pat : List ℕ) (p e s : ℕ) where
  abbrev pub Fits : Bool → Type 0
  Fits r = r ≡ fits_at in_class sub (single_of pat p e) s

  pub fits_end : length sub ≤ s → Fits false
  unfolding fits_at
  fits_end h = rw (le-ltb s (length sub) h)

  module _ (h : s < length sub) where
    pub fits_any : byte_at pat p ≡ code "." → Fits true
    unfolding fits_at single_of fits when◌then◌else◌
    fits_any b = rw (lt-ltb s (length sub) h, b)

    pub fits_class : byte_at pat p ≡ code "%" → Fits (in_class (byte_at pat (p + 1)) (byte_at sub s))
    unfolding fits_at single_of fits when◌then◌else◌
    fits_class b = rw (lt-ltb s (length sub) h, b)

    pub fits_set : byte_at pat p ≡ code "[" → Fits (in_set in_class (set_of pat p (e - 1)) (byte_at sub s))
    unfolding fits_at single_of fits when◌then◌else◌
    fits_set b = rw (lt-ltb s (length sub) h, b)

    pub fits_byte : (byte_at pat p ≡ code "." → ⊥) → (byte_at pat p ≡ code "%" → ⊥) → (byte_at pat p ≡ code "[" → ⊥) → Fits (eqb (byte_at pat p) (byte_at sub s))
    unfolding fits_at single_of fits when◌then◌else◌
    fits_byte a b d = rw (lt-ltb s (length sub) h, ne_eqb (byte_at pat p) (code ".") a, ne_eqb (byte_at pat p) (code "%") b, ne_eqb (byte_at pat p) (code "[") d)

-- ---- What a byte is tested for, by the single's first byte

module _ (in_class : ℕ → ℕ → Bool) (pat : List ℕ) (p e c : ℕ) where
  abbrev Takes : Bool → Type 0
  Takes r = r ≡ fits in_class (single_of pat p e) c

  pub any_takes : byte_at pat p ≡ code "." → Takes true
  unfolding single_of fits when◌then◌else◌
  any_takes b = rw b

  pub class_takes : byte_at pat p ≡ code "%" → Takes (in_class (byte_at pat (p + 1)) c)
  unfolding single_of fits when◌then◌else◌
  class_takes b = rw b

  pub set_takes : byte_at pat p ≡ code "[" → Takes (in_set in_class (set_of pat p (e - 1)) c)
  unfolding single_of fits when◌then◌else◌
  set_takes b = rw b

  pub byte_takes : (byte_at pat p ≡ code "." → ⊥) → (byte_at pat p ≡ code "%" → ⊥) → (byte_at pat p ≡ code "[" → ⊥) → Takes (eqb (byte_at pat p) c)
  unfolding single_of fits when◌then◌else◌
  byte_takes a b d = rw (ne_eqb (byte_at pat p) (code ".") a, ne_eqb (byte_at pat p) (code "%") b, ne_eqb (byte_at pat p) (code "[") d)

module _ (in_class : ℕ → ℕ → Bool) (sub : List ℕ) where
  -- ---- Frontiers

  module _ (x : Set) (s : ℕ) where
    pub frontier_before : in_set in_class x (byte_before sub s) ≡ true → false ≡ is_frontier in_class sub x s
    unfolding is_frontier
    frontier_before e = rw e

    pub frontier_at : in_set in_class x (byte_before sub s) ≡ false → in_set in_class x (byte_at sub s) ≡ is_frontier in_class sub x s
    unfolding is_frontier
    frontier_at e = rw e

  -- ---- Repeats

  module _ (x : Single) (s : ℕ) where
    pub fits_here : s < length sub → fits in_class x (byte_at sub s) ≡ fits_at in_class sub x s
    unfolding fits_at
    fits_here h = rw (lt-ltb s (length sub) h)

    pub fits_inside : fits_at in_class sub x s ≡ true → s < length sub
    unfolding fits_at
    fits_inside e = ltb-true s (length sub) (and_left (ltb s (length sub)) (fits in_class x (byte_at sub s)) e)

    module _ (budget u : ℕ) where
      abbrev pub reach_from : ℕ → ℕ → Reach
      reach_from t v = reach in_class sub budget x (length sub - t) t v

      spent_by : (n : ℕ) → budget ≤ u → reach in_class sub budget x n s u ≡ spent u
      unfolding reach when◌then◌else◌
      spent_by zero h = rw (le-ltb u budget h)
      spent_by (suc n) h = rw (le-ltb u budget h)

      pub end_spent : budget ≤ u → reach in_class sub budget x 0 s u ≡ spent u
      end_spent h = spent_by 0 h

      pub reach_spent : budget ≤ u → reach_from s u ≡ spent u
      reach_spent h = spent_by (length sub - s) h

      module _ (h : u < budget) where
        pub end_reached : reach in_class sub budget x 0 s u ≡ reached s (u + 1)
        unfolding reach when◌then◌else◌
        end_reached = rw (lt-ltb u budget h)

        stop_by : (n : ℕ) → fits_at in_class sub x s ≡ false → reach in_class sub budget x n s u ≡ reached s (u + 1)
        unfolding reach when◌then◌else◌
        stop_by zero e = rw (lt-ltb u budget h)
        stop_by (suc n) e = rw (lt-ltb u budget h, e)

        pub reach_stop : fits_at in_class sub x s ≡ false → reach_from s u ≡ reached s (u + 1)
        reach_stop e = stop_by (length sub - s) e

        pub reach_more : fits_at in_class sub x s ≡ true → reach_from s u ≡ reach_from (s + 1) (u + 1)
        unfolding reach when◌then◌else◌
        reach_more e =
            let n : length sub - s ≡ suc (length sub - (s + 1)) = omega (arith, fits_inside e) in
            rw (n, lt-ltb u budget h, e)

      -- the tests up to the subject's end make all of it
      pub reach_rest : (whole r : Reach) → whole ≡ reach_from s u → length sub ≤ s → s ≤ length sub → r ≡ reach in_class sub budget x 0 (length sub) u → r ≡ whole
      reach_rest whole r e f g k =
          let n : length sub - s ≡ 0 = omega arith in
          let t : s ≡ length sub = omega arith in
          k ∙ sym (e ∙ rw (n, t))
