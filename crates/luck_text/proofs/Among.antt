-- Laws of a number that is, or is not, one of a list.
-- Assumes nothing.
use Prim.Native.Nat.{ℕ}
use mathlib.Core.Path.{◌≡◌, refl, sym, ap₂, subst}
use mathlib.Core.Bool.{Bool, true, false, ◌||◌, true≢false}
use mathlib.Core.List.{List, [], ◌∷◌, ◌++◌}
use lib.Dec.{eqb}
use borrow.Author.Tests.{eq-eqb, ne_eqb, eqb-true, eqb-false}
use Rattle.std.specs.List.{list_any}
use Rattle.luck_text.specs.Bytes.{among}

abbrev pub Every : (ℕ → Type 0) → List ℕ → Type 0
Every P [] = Unit {0}
Every P (x ∷ xs) = P x × Every P xs

-- what holds of each number of a list holds of one that is among them
pub every_among : (P : ℕ → Type 0) (xs : List ℕ) → Every P xs → (b : ℕ) → among b xs ≡ true → P b
unfolding among
every_among P [] h b e = absurd (true≢false (sym e))
every_among P (x ∷ xs) h b e = go (every_among P xs h.1 b) (eqb b x) refl e
  where
    go : (among b xs ≡ true → P b) → (t : Bool) → eqb b x ≡ t → (t || among b xs) ≡ true → P b
    go more true q f = subst P (sym (eqb-true b x q)) h.0
    go more false q f = more f

pub none_among : (b : ℕ) (xs ys : List ℕ) → among b xs ≡ false → among b ys ≡ false → among b (xs ++ ys) ≡ false
unfolding among
none_among b [] ys e f = f
none_among b (x ∷ xs) ys e f = go (λ g. none_among b xs ys g f) (eqb b x) e
  where
    go : (among b xs ≡ false → among b (xs ++ ys) ≡ false) → (t : Bool) → (t || among b xs) ≡ false → (t || among b (xs ++ ys)) ≡ false
    go more true g = g
    go more false g = more g

pub not_among : (b x : ℕ) → (b ≡ x → ⊥) → among b (x ∷ []) ≡ false
unfolding among
not_among b x n = rw (ne_eqb b x n)

eqb_swap : (a b : ℕ) → eqb a b ≡ eqb b a
eqb_swap a b = go (eqb b a) refl
  where
    go : (t : Bool) → eqb b a ≡ t → eqb a b ≡ t
    go true e = eq-eqb a b (sym (eqb-true b a e))
    go false e = ne_eqb a b (λ q. eqb-false b a e (sym q))

-- the library's search finds what is among
pub among_any : (b : ℕ) (xs : List ℕ) → list_any (λ x. eqb x b) xs ≡ among b xs
unfolding among
among_any b [] = refl
among_any b (x ∷ xs) = ap₂ (λ (t u : Bool). t || u) (eqb_swap x b) (among_any b xs)
