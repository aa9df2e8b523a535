-- The answers of the check of a pack format.
-- Assumes nothing.
use Rattle.std.specs.Prelude.{Option, None, Some}
use Prim.Native.Nat.{ℕ, ◌+◌, ◌≤◌, ◌<◌}
use native.Mathlib.Omega.{arith}
use mathlib.Core.Path.{◌≡◌, refl}
use mathlib.Core.Bool.{Bool, true, false}
use mathlib.Core.List.{List}
use lib.ListN.{length}
use borrow.Author.Tests.{leb-false}
use Rattle.luck_text.specs.Bytes.{byte_at, among}
use Rattle.luck_text.specs.Walk.{Turn}
use Rattle.luck_text.proofs.Cases.{by_test}
use Rattle.luck_text.proofs.Among.{every_among}
use Rattle.luck_answer.specs.Answer.{Answer}
use Rattle.luck_linter.specs.Checks.{pack, numbers}
use Rattle.luck_linter.proofs.Counts.{Counts, walk_counts, Walked}
use Rattle.luck_pack.specs.Pack.{
  PackOption,
  OptionRead,
  option,
  fault,
  getnumlimit,
  fixed_string,
  numbered_option,
  getoption,
  KOption,
  Kint,
  Kuint,
  Kfloat,
  Knumber,
  Kdouble,
  Kchar,
  Kstring,
  Kzstr,
  Kpadding,
  Kpaddalign,
  Knop,
  kind_of,
  PackState,
  pack_state,
  aligned,
  variable,
  align_by,
  alignment_of,
  align_to_next,
  kind_turn,
  option_turn,
  pack_turn,
  pack_end,
  luck_size,
  pack_walk,
}

abbrev values_of : PackState → ℕ
values_of s = s.values

-- the numbers of a pack format are among those of packsize, too
also : (packsize : Bool) (n : ℕ) → among n (numbers (pack false)) ≡ true → among n (numbers (pack packsize)) ≡ true
unfolding among
also false n e = e
also true n e = every_among (λ x. among x (numbers (pack true)) ≡ true) (numbers (pack false)) (refl, (refl, (refl, (refl, (refl, (refl, (refl, tt))))))) n e

module _ (packsize : Bool) (text : List ℕ) where
  abbrev Placed : Answer → Type 0
  Placed a = Walked (length text) (numbers (pack packsize)) a

  abbrev Reads : OptionRead → Type 0
  Reads (option o width) = Unit {0}
  Reads (fault a) = Placed a

  limited_placed : (letter p : ℕ) → p ≤ length text → Reads (getnumlimit letter text p)
  unfolding getnumlimit among
  limited_placed letter p h = by_test Reads _ _ _ (λ _. tt) (λ _. by_test Reads _ _ _ (λ _. tt) (λ _. (h, also packsize 16 refl, omega arith)))

  fixed_placed : (p : ℕ) → p ≤ length text → Reads (fixed_string text p)
  unfolding fixed_string among
  fixed_placed p h = by_test Reads _ _ _ (λ _. (h, also packsize 15 refl, omega arith)) (λ _. tt)

  numbered_placed : (p : ℕ) → p < length text → Reads (numbered_option text p)
  unfolding numbered_option among
  numbered_placed p h =
      let next : p + 1 ≤ length text = omega arith in
      by_test Reads _ _ _ (λ _. limited_placed (byte_at text p) (p + 1) next) (λ _. by_test Reads _ _ _ (λ _. fixed_placed (p + 1) next) (λ _. (omega arith, also packsize 14 refl, omega arith)))

  option_placed : (p : ℕ) → p ≤ length text → Reads (getoption text p)
  unfolding getoption among
  option_placed p h =
      by_test Reads _ _ _ (λ _. (h, also packsize 15 refl, omega arith))
      (λ e. by_test Reads _ _ _ (λ _. tt) (λ _. numbered_placed p (leb-false (length text) p e)))

  module _ (p : ℕ) (h : p < length text) (s : PackState) where
    abbrev Steps : Turn PackState Answer → Type 0
    Steps t = Counts values_of Placed (values_of s) t

    here : p ≤ length text
    here = omega arith

    aligned_placed : (width size : ℕ) (after : PackState) → values_of after ≤ values_of s + 1 → Steps (aligned p width size s after)
    unfolding aligned among
    aligned_placed width size after c = by_test Steps _ _ _ (λ _. (here, also packsize 17 refl, omega arith)) (λ _. c)

    variable_placed : (t : Turn PackState Answer) → Steps t → Steps (variable packsize text p t)
    unfolding variable among
    variable_placed t r = by_test Steps _ _ _ (λ e. (here, rw e, omega arith)) (λ _. r)

    align_placed : (width : ℕ) (to : Option ℕ) → Steps (align_by text p s width to)
    unfolding align_by among
    align_placed width (Some size) = aligned_placed (1 + width) size s (omega arith)
    align_placed width None = (omega arith, also packsize 14 refl, omega arith)

    next_placed : (next : OptionRead) → Reads next → Steps (align_to_next luck_size text p s next)
    unfolding align_to_next
    next_placed (option o width) r = align_placed width (alignment_of luck_size (kind_of o.letter) o)
    next_placed (fault a) r = r

    kind_placed : (width : ℕ) (o : PackOption) (k : KOption) → Steps (kind_turn luck_size packsize text p s width o k)
    unfolding kind_turn
    kind_placed width o Kint = aligned_placed width (luck_size o) _ (omega arith)
    kind_placed width o Kuint = aligned_placed width (luck_size o) _ (omega arith)
    kind_placed width o Kfloat = aligned_placed width (luck_size o) _ (omega arith)
    kind_placed width o Knumber = aligned_placed width (luck_size o) _ (omega arith)
    kind_placed width o Kdouble = aligned_placed width (luck_size o) _ (omega arith)
    kind_placed width o Kchar = omega arith
    kind_placed width o Kstring = variable_placed _ (aligned_placed width (luck_size o) _ (omega arith))
    kind_placed width o Kzstr = variable_placed _ (omega arith)
    kind_placed width o Kpadding = omega arith
    kind_placed width o Kpaddalign = next_placed (getoption text (p + 1)) (option_placed (p + 1) (omega arith))
    kind_placed width o Knop = omega arith

    step_placed : (read : OptionRead) → Reads read → Steps (option_turn luck_size packsize text p s read)
    unfolding option_turn
    step_placed (option o width) r = kind_placed width o (kind_of o.letter)
    step_placed (fault a) r = r

    item_placed : Steps (pack_turn luck_size packsize text p s)
    unfolding pack_turn
    item_placed = step_placed (getoption text p) (option_placed p here)

  end_placed : (p : ℕ) (s : PackState) → values_of s ≤ length text → Placed (pack_end p s)
  unfolding pack_end among
  end_placed p s h = (omega arith, also packsize 0 refl, h)

  pub pack_bounded : Walked (length text) (numbers (pack packsize)) (pack_walk packsize text)
  unfolding pack_walk
  pack_bounded = walk_counts (pack_turn luck_size packsize text) pack_end (length text) values_of Placed (λ p s h. item_placed p h s) end_placed (pack_state 0 1) refl
