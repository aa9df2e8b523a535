-- The list of a pack format's options: an option stands before those behind it, and the count of a format that is accepted
-- is that of the options in its list that have a value and are not read by an `X`.
-- Assumes nothing.
use Rattle.std.specs.Prelude.{Option, None, Some}
use Prim.Native.Nat.{ℕ, zero, suc, ◌+◌, ◌-◌, ◌≤◌, ◌<◌}
use Prim.Native.Char.{code}
use native.Mathlib.Nat.{zero-add}
use native.Mathlib.Omega.{arith}
use mathlib.Core.Path.{◌≡◌, refl, sym, ap, subst, ◌∙◌}
use mathlib.Core.Logic.{⊎_elim}
use mathlib.Core.Bool.{Bool, true, false, true≢false}
use mathlib.Core.List.{List, [], ◌∷◌}
use lib.ListN.{length}
use borrow.Author.Tests.{le-leb, leb-false}
use Rattle.luck_text.specs.Bytes.{when◌then◌else◌, byte_at, among, is_digit}
use Rattle.luck_text.specs.Walk.{Turn, walk_from}
use Rattle.luck_text.specs.Walk.Turn.{stop, goes}
use Rattle.luck_text.proofs.Cases.{by_test, if_true, order}
use Rattle.luck_text.proofs.Bytes.{run_inside}
use Rattle.luck_text.proofs.Walk.{walk_end, walk_stop, walk_goes}
use Rattle.luck_answer.specs.Answer.{Answer, refused}
use Rattle.luck_pack.specs.Pack.{
  PackOption,
  OptionRead,
  option,
  fault,
  getnumlimit,
  fixed_string,
  limited_letters,
  numbered_option,
  getoption,
  PlacedOption,
  placed_option,
  options_up_to,
  options_from,
  options,
  KOption,
  Kint,
  Kuint,
  Kfloat,
  Knumber,
  Kdouble,
  Kchar,
  Kstring,
  Kzstr,
  Kpadding,
  Kpaddalign,
  Knop,
  kind_of,
  luck_size,
  maxalign,
  PackState,
  pack_state,
  one_more,
  aligned,
  variable,
  align_by,
  alignment_of,
  align_to_next,
  kind_turn,
  option_turn,
  pack_turn,
  pack_end,
  pack_walk,
}
use Rattle.luck_text.proofs.Among.{every_among}

-- ---- Values

-- the values that an option of this kind takes
unfoldable pub values_of : KOption → ℕ
values_of Kint = 1
values_of Kuint = 1
values_of Kfloat = 1
values_of Knumber = 1
values_of Kdouble = 1
values_of Kchar = 1
values_of Kstring = 1
values_of Kzstr = 1
values_of Kpadding = 0
values_of Kpaddalign = 0
values_of Knop = 0

unfoldable pub is_paddalign : KOption → Bool
is_paddalign Kint = false
is_paddalign Kuint = false
is_paddalign Kfloat = false
is_paddalign Knumber = false
is_paddalign Kdouble = false
is_paddalign Kchar = false
is_paddalign Kstring = false
is_paddalign Kzstr = false
is_paddalign Kpadding = false
is_paddalign Kpaddalign = true
is_paddalign Knop = false

-- those of a list, whose first option is the one that an `X` reads, or not
unfoldable pub values : Bool → List PlacedOption → ℕ
values behind [] = 0
values true (first ∷ more) = values false more
values false (first ∷ more) = let kind = kind_of first.read.letter in values_of kind + values (is_paddalign kind) more

-- ---- Reading

-- a letter with a number is no `X`
limited_letter : (letter : ℕ) → among letter limited_letters ≡ true → is_paddalign (kind_of letter) ≡ false
unfolding kind_of is_paddalign among when◌then◌else◌
limited_letter = every_among (λ (x : ℕ). is_paddalign (kind_of x) ≡ false) limited_letters (refl, (refl, (refl, (refl, tt))))

fixed_letter : is_paddalign (kind_of (code "c")) ≡ false
unfolding kind_of is_paddalign among when◌then◌else◌
fixed_letter = refl

module _ (text : List ℕ) where
  module _ (p : ℕ) where
    -- an option lies in the text, and `X` is one byte; a fault is a refusal
    abbrev Inside : OptionRead → Type 0
    Inside (option o width) = (0 < width) × (p + width ≤ length text) × (is_paddalign (kind_of o.letter) ≡ true → width ≡ 1)
    Inside (fault answer) = answer.number ≡ 0 → ⊥

    limited_inside : (letter : ℕ) → among letter limited_letters ≡ true → p < length text → Inside (getnumlimit letter text (p + 1))
    unfolding getnumlimit
    limited_inside letter e h =
        let r = run_inside is_digit text (p + 1) (omega arith) in
        by_test Inside _ _ _ (λ _. (omega arith, omega arith, λ _. refl))
        (λ _. by_test Inside _ _ _ (λ _. (omega arith, omega (arith, r), λ x. absurd (true≢false (sym x ∙ limited_letter letter e)))) (λ _ z. omega (arith, z)))

    fixed_inside : p < length text → Inside (fixed_string text (p + 1))
    unfolding fixed_string
    fixed_inside h =
        let r = run_inside is_digit text (p + 1) (omega arith) in
        by_test Inside _ _ _ (λ _ z. omega (arith, z)) (λ _. (omega arith, omega (arith, r), λ x. absurd (true≢false (sym x ∙ fixed_letter))))

    numbered_inside : p < length text → Inside (numbered_option text p)
    unfolding numbered_option
    numbered_inside h =
        by_test Inside _ _ _ (λ e. limited_inside (byte_at text p) e h) (λ _. by_test Inside _ _ _ (λ _. fixed_inside h) (λ _ z. omega (arith, z)))

    inside : Inside (getoption text p)
    unfolding getoption
    inside =
        by_test Inside _ _ _ (λ _ z. omega (arith, z))
        (λ e.
        let h = leb-false (length text) p e in
        by_test Inside _ _ _ (λ _. (omega arith, omega (arith, h), λ _. refl)) (λ _. numbered_inside h))

    pub option_inside : (o : PackOption) (width : ℕ) → getoption text p ≡ option o width
        → (0 < width) × (p + width ≤ length text) × (is_paddalign (kind_of o.letter) ≡ true → width ≡ 1)
    option_inside o width e = subst Inside e inside

    pub fault_refuses : (answer : Answer) → getoption text p ≡ fault answer → answer.number ≡ 0 → ⊥
    fault_refuses answer e = subst Inside e inside

    pub no_option : length text ≤ p → getoption text p ≡ fault (refused 15 p)
    unfolding getoption
    no_option h = if_true _ _ _ (le-leb (length text) p h)

  -- ---- The list

  up_to_next : (n p : ℕ) (o : PackOption) (width : ℕ) → getoption text p ≡ option o width → options_up_to (suc n) text p ≡ placed_option p o ∷ options_up_to n text (p + width)
  unfolding options_up_to
  up_to_next n p o width e = rw (e, options_up_to)

  up_to_fault : (n p : ℕ) (answer : Answer) → getoption text p ≡ fault answer → options_up_to n text p ≡ []
  unfolding options_up_to
  up_to_fault zero p answer e = refl
  up_to_fault (suc n) p answer e = rw (e, options_up_to)

  -- more than enough is enough
  up_to_same : (n m p : ℕ) → length text - p ≤ n → length text - p ≤ m → options_up_to n text p ≡ options_up_to m text p
  up_to_same zero m p h g =
      let e = no_option p (omega arith) in
      up_to_fault zero p (refused 15 p) e ∙ sym (up_to_fault m p (refused 15 p) e)
  up_to_same (suc n) zero p h g =
      let e = no_option p (omega arith) in
      up_to_fault (suc n) p (refused 15 p) e ∙ sym (up_to_fault zero p (refused 15 p) e)
  up_to_same (suc n) (suc m) p h g = go (λ width l. up_to_same n m (p + width) (omega arith) (omega arith)) (getoption text p) refl
    where
      go : ((width : ℕ) → 0 < width → options_up_to n text (p + width) ≡ options_up_to m text (p + width)) → (r : OptionRead) → getoption text p ≡ r
          → options_up_to (suc n) text p ≡ options_up_to (suc m) text p
      go rest (option o width) e =
          up_to_next n p o width e ∙ ap (λ (more : List PlacedOption). placed_option p o ∷ more) (rest width (option_inside p o width e).0) ∙ sym (up_to_next m p o width e)
      go rest (fault answer) e = up_to_fault (suc n) p answer e ∙ sym (up_to_fault (suc m) p answer e)

  pub options_next : (p : ℕ) (o : PackOption) (width : ℕ) → getoption text p ≡ option o width → options_from text p ≡ placed_option p o ∷ options_from text (p + width)
  unfolding options_from
  options_next p o width e =
      let i = option_inside p o width e in
      let n : length text - p ≡ suc (length text - suc p) = omega (arith, i.0, i.1) in
      ap (λ (k : ℕ). options_up_to k text p) n ∙ up_to_next (length text - suc p) p o width e
      ∙ ap (λ (more : List PlacedOption). placed_option p o ∷ more) (up_to_same (length text - suc p) (length text - (p + width)) (p + width) (omega (arith, i.0)) (omega arith))

  pub options_fault : (p : ℕ) (answer : Answer) → getoption text p ≡ fault answer → options_from text p ≡ []
  unfolding options_from
  options_fault p answer e = up_to_fault (length text - p) p answer e

  -- ---- The check counts the list's values

  abbrev count : Bool → ℕ → ℕ
  count behind p = values behind (options_from text p)

  module _ (p : ℕ) (o : PackOption) (width : ℕ) (e : getoption text p ≡ option o width) where
    count_next : (kind : KOption) → kind_of o.letter ≡ kind → count false p ≡ values_of kind + count (is_paddalign kind) (p + width)
    unfolding values
    count_next _ k = ap (values false) (options_next p o width e) ∙ ap (λ (x : KOption). values_of x + count (is_paddalign x) (p + width)) k

    count_behind : count true p ≡ count false (p + width)
    unfolding values
    count_behind = ap (values true) (options_next p o width e)

  module _ (packsize : Bool) where
    -- a turn that goes on keeps the sum of the values so far and those of the list; one that stops refuses
    module _ (p : ℕ) (s : PackState) where
      abbrev Keeps : Turn PackState Answer → Type 0
      Keeps (stop answer) = answer.number ≡ 0 → ⊥
      Keeps (goes width after) = (0 < width) × (p + width ≤ length text) × (s.values + count false p ≡ after.values + count false (p + width))

      aligned_keeps : (width size : ℕ) (after : PackState) → Keeps (goes width after) → Keeps (aligned p width size s after)
      unfolding aligned
      aligned_keeps width size after k = by_test Keeps _ _ _ (λ _ z. omega (arith, z)) (λ _. k)

      variable_keeps : (step : Turn PackState Answer) → Keeps step → Keeps (variable packsize text p step)
      unfolding variable
      variable_keeps step k = by_test Keeps _ _ _ (λ _ z. omega (arith, z)) (λ _. k)

      align_keeps : (width : ℕ) (to : Option ℕ) → Keeps (goes (1 + width) s) → Keeps (align_by text p s width to)
      unfolding align_by
      align_keeps width (Some size) k = aligned_keeps (1 + width) size s k
      align_keeps width None k = λ z. omega (arith, z)

      module _ (o : PackOption) (width : ℕ) (e : getoption text p ≡ option o width) where
        -- `X` at p, before what stands at p + 1
        next_keeps : kind_of o.letter ≡ Kpaddalign → (next : OptionRead) → getoption text (p + 1) ≡ next → Keeps (align_to_next luck_size text p s next)
        unfolding align_to_next values_of is_paddalign
        next_keeps k (option after w) f =
            let one : width ≡ 1 = (option_inside p o width e).2 (ap is_paddalign k) in
            let i = option_inside (p + 1) after w f in
            let there : p + 1 + w ≡ p + (1 + w) = omega arith in
            let first : count false p ≡ 0 + count true (p + width) = count_next p o width e Kpaddalign k in
            let rest : count true (p + width) ≡ count false (p + (1 + w)) =
            ap (λ (x : ℕ). count true (p + x)) one ∙ count_behind (p + 1) after w f ∙ ap (count false) there in
            align_keeps w (alignment_of luck_size (kind_of after.letter) after) (omega arith, omega (arith, i.1), omega (arith, first, rest))
        next_keeps k (fault answer) f = fault_refuses (p + 1) answer f

        with_value : count false p ≡ 1 + count false (p + width) → Keeps (goes width (one_more s))
        with_value c = let i = option_inside p o width e in (i.0, i.1, omega (arith, c))

        without : count false p ≡ 0 + count false (p + width) → (largest : ℕ) → Keeps (goes width (pack_state s.values largest))
        without c largest = let i = option_inside p o width e in (i.0, i.1, omega (arith, c))

        kind_keeps : (kind : KOption) → kind_of o.letter ≡ kind → Keeps (kind_turn luck_size packsize text p s width o kind)
        unfolding kind_turn values_of is_paddalign
        kind_keeps Kint k = aligned_keeps width (luck_size o) (one_more s) (with_value (count_next p o width e Kint k))
        kind_keeps Kuint k = aligned_keeps width (luck_size o) (one_more s) (with_value (count_next p o width e Kuint k))
        kind_keeps Kfloat k = aligned_keeps width (luck_size o) (one_more s) (with_value (count_next p o width e Kfloat k))
        kind_keeps Knumber k = aligned_keeps width (luck_size o) (one_more s) (with_value (count_next p o width e Knumber k))
        kind_keeps Kdouble k = aligned_keeps width (luck_size o) (one_more s) (with_value (count_next p o width e Kdouble k))
        kind_keeps Kchar k = with_value (count_next p o width e Kchar k)
        kind_keeps Kstring k =
            variable_keeps (aligned p width (luck_size o) s (one_more s)) (aligned_keeps width (luck_size o) (one_more s) (with_value (count_next p o width e Kstring k)))
        kind_keeps Kzstr k = variable_keeps (goes width (one_more s)) (with_value (count_next p o width e Kzstr k))
        kind_keeps Kpadding k = without (count_next p o width e Kpadding k) s.alignment
        kind_keeps Kpaddalign k = next_keeps k (getoption text (p + 1)) refl
        kind_keeps Knop k = without (count_next p o width e Knop k) (maxalign o s.alignment)

      read_keeps : (r : OptionRead) → getoption text p ≡ r → Keeps (option_turn luck_size packsize text p s r)
      unfolding option_turn
      read_keeps (option o width) e = kind_keeps o width e (kind_of o.letter) refl
      read_keeps (fault answer) e = fault_refuses p answer e

      turn_keeps : Keeps (pack_turn luck_size packsize text p s)
      unfolding pack_turn
      turn_keeps = read_keeps (getoption text p) refl

    abbrev on : ℕ → PackState → Answer
    on p s = walk_from (pack_turn luck_size packsize text) pack_end (length text) p s

    abbrev Counts : ℕ → Answer → Type 0
    Counts n answer = answer.number ≡ 0 → answer.count ≡ n

    at_end : (p : ℕ) (s : PackState) → length text ≤ p → Counts (s.values + count false p) (on p s)
    unfolding pack_end values
    at_end p s h =
        let none_left : count false p ≡ 0 = ap (values false) (options_fault p (refused 15 p) (no_option p h)) in
        subst (Counts (s.values + count false p)) (sym (walk_end (pack_turn luck_size packsize text) pack_end (length text) p s h)) (λ _. omega (arith, none_left))

    counts : (n p : ℕ) (s : PackState) → length text - p ≤ n → Counts (s.values + count false p) (on p s)
    counts zero p s h = at_end p s (omega arith)
    counts (suc n) p s h = ⊎_elim (λ l. go (λ w after g. counts n (p + w) after (omega arith)) l (pack_turn luck_size packsize text p s) refl) (λ g. at_end p s g) (order p (length text))
      where
        go : ((w : ℕ) (after : PackState) → 0 < w → Counts (after.values + count false (p + w)) (on (p + w) after)) → p < length text
            → (t : Turn PackState Answer) → pack_turn luck_size packsize text p s ≡ t → Counts (s.values + count false p) (on p s)
        go rest l (stop answer) e =
            subst (Counts (s.values + count false p)) (sym (walk_stop (pack_turn luck_size packsize text) pack_end (length text) p s answer l e))
            (λ z. absurd (subst (Keeps p s) e (turn_keeps p s) z))
        go rest l (goes w after) e =
            let k = subst (Keeps p s) e (turn_keeps p s) in
            subst (Counts (s.values + count false p)) (sym (walk_goes (pack_turn luck_size packsize text) pack_end (length text) p s w after k.0 k.1 e))
            (λ z. rest w after k.0 z ∙ sym k.2)

    -- the count of an accepted format is that of the values in its list
    pub counts_values : (pack_walk packsize text).number ≡ 0 → (pack_walk packsize text).count ≡ values false (options text)
    unfolding pack_walk options
    counts_values accepts = counts (length text) 0 (pack_state 0 1) (omega arith) accepts ∙ zero-add (count false 0)
