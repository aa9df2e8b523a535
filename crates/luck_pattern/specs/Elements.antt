-- The elements of a set with their places, as matchbracketclass of lstrlib.c 5.4 reads them: one reading, which the
-- matching (`elements_of`) and the test of ranges (`first_reversed`, F-10 of document 02) both go by. A range is reversed
-- where its left byte is greater than its right.
-- Assumes nothing.
use Rattle.std.specs.Prelude.{ℕ, zero, suc, ◌+◌, ◌-◌, Bool, false, ◌&&◌, List, [], ◌∷◌, eqb, leb, ltb, Option, None, Some}
use Prim.Native.Char.{code}
use Rattle.luck_text.specs.Bytes.{when◌then◌else◌, byte_at}

-- what matchbracketclass tests a byte for
pub data Element : Type 0 where
  escape : ℕ → Element  -- `%` and a byte
  range : ℕ → ℕ → Element
  plain : ℕ → Element

-- the element at place q of a set whose closing `]` stands at e, behind q. A `%` just before that `]` takes the `]`
unfoldable pub element_at : List ℕ → ℕ → ℕ → Element
element_at pat e q =
    when eqb (byte_at pat q) (code "%") then escape (byte_at pat (q + 1))
    else when eqb (byte_at pat (q + 1)) (code "-") && ltb (q + 2) e then range (byte_at pat q) (byte_at pat (q + 2))
    else plain (byte_at pat q)

-- how many bytes of the pattern an element is: `%` and a byte; left, `-`, right; a byte
unfoldable pub width_of : Element → ℕ
width_of (escape b) = 2
width_of (range left right) = 3
width_of (plain b) = 1

-- an element and the place of its first byte
pub record PlacedElement : Type 0 where
  pub place : ℕ
  pub element : Element

abbrev pub ◌at◌ : Element → ℕ → PlacedElement
◌at◌ x q = record { place = q; element = x }

-- the elements from place q up to the closing `]` at place e; n is at least the bytes between (`placed_at` takes it
-- away)
unfoldable pub placed_from : List ℕ → ℕ → ℕ → ℕ → List PlacedElement
placed_from pat e zero q = []
placed_from pat e (suc n) q =
    let x = element_at pat e q in
    let all = ◌at◌ x q ∷ placed_from pat e n (q + width_of x) in
    when leb e q then [] else all

unfoldable pub placed_elements : List ℕ → ℕ → ℕ → List PlacedElement
placed_elements pat e q = placed_from pat e (e - q) q

-- what the matching tests a byte for: the elements without their places
unfoldable pub elements_in : List PlacedElement → List Element
elements_in [] = []
elements_in (x ∷ more) = x.element ∷ elements_in more

unfoldable pub elements_of : List ℕ → ℕ → ℕ → List Element
elements_of pat e q = elements_in (placed_elements pat e q)

-- ---- Reversed ranges

unfoldable pub is_reversed : Element → Bool
is_reversed (range left right) = ltb right left
is_reversed (escape b) = false
is_reversed (plain b) = false

-- the place of the first reversed range, which is that of its left byte
unfoldable pub reversed_in : List PlacedElement → Option ℕ
reversed_in [] = None
reversed_in (x ∷ more) = let later = reversed_in more in when is_reversed x.element then Some x.place else later

-- of the elements from place q up to the closing `]` at place e
unfoldable pub first_reversed : List ℕ → ℕ → ℕ → Option ℕ
first_reversed pat e q = reversed_in (placed_elements pat e q)
