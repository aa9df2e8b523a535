-- Which bytes a single takes (matchbracketclass and singlematch of lstrlib.c 5.4; document 01, "The trial"), over a
-- test for classes such as match_class.
-- Assumes nothing.
use Rattle.std.specs.Prelude.{ℕ, Bool, true, false, not, ◌||◌, List, [], ◌∷◌, eqb}
use Rattle.luck_text.specs.Bytes.{when◌then◌else◌, between}
use Rattle.luck_pattern.specs.Elements.{Element, escape, range, plain}
use Rattle.luck_pattern.specs.Items.{Set, Single, any, class, among_set, byte}

module _ (in_class : ℕ → ℕ → Bool) where
  -- one element of a set: a class, a range or a byte
  unfoldable pub is_element : Element → ℕ → Bool
  is_element (escape cl) c = in_class cl c
  is_element (range low high) c = between low high c
  is_element (plain b) c = eqb b c

  -- and one of several
  unfoldable pub is_any_of : List Element → ℕ → Bool
  is_any_of [] c = false
  is_any_of (element ∷ more) c = is_element element c || is_any_of more c

  -- matchbracketclass: a set with `^` takes what its elements do not
  unfoldable pub in_set : Set → ℕ → Bool
  in_set set c = when set.complement then not (is_any_of set.elements c) else is_any_of set.elements c

  -- singlematch, where a byte is left
  unfoldable pub fits : Single → ℕ → Bool
  fits any c = true
  fits (class cl) c = in_class cl c
  fits (among_set set) c = in_set set c
  fits (byte b) c = eqb b c
