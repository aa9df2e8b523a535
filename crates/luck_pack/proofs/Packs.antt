-- Laws of pack formats: a law for each way that the code reads an option, aligns it, and takes a step of the walk.
-- Assumes nothing.
use Rattle.std.specs.Prelude.{Option, None, Some}
use Prim.Native.Nat.{ℕ, ◌+◌, ◌≤◌, ◌<◌, min}
use Prim.Native.Char.{code}
use native.Mathlib.Omega.{arith}
use mathlib.Core.Path.{◌≡◌, refl, sym, ap, ap₂, subst, ◌∙◌}
use mathlib.Core.Logic.{◌⊎◌, inl, inr}
use mathlib.Core.Bool.{Bool, true, false}
use mathlib.Core.List.{List}
use lib.ListN.{length, drop}
use lib.Dec.{eqb}
use borrow.Author.Tests.{le-leb, lt-leb, eq-eqb, ne_eqb}
use Rattle.luck_text.specs.Bytes.{when◌then◌else◌, byte_at, part, between, among, is_digit, run, numeral}
use Rattle.luck_utf8.specs.Utf8.{char_at}
use Rattle.luck_text.specs.Scan.{most}
use Rattle.luck_text.specs.Walk.{Turn, walk_from}
use Rattle.luck_text.specs.Walk.Turn.{stop, goes}
use Rattle.luck_text.proofs.Cases.{by_test, if_true, if_false, order}
use Rattle.luck_text.proofs.Bytes.{within, above, Between, between_true}
use Rattle.luck_text.proofs.Walk.{walk_end, walk_stop, walk_goes}
use Rattle.luck_answer.specs.Answer.{Answer, accepted, refused, refused_with}
use Rattle.luck_pack.specs.Pack.{PackOption as Given, pack_option, OptionRead, option, fault, getnumlimit, fixed_string}
use Rattle.luck_pack.specs.Pack.{bare_letters, limited_letters, numbered_option, getoption, KOption, Kint, Kuint, Kfloat}
use Rattle.luck_pack.specs.Pack.{Knumber, Kdouble, Kchar, Kstring, Kzstr, Kpadding, Kpaddalign, Knop, kind_of, luck_size}
use Rattle.luck_pack.specs.Pack.{maxalign, PackState, pack_state, is_misaligned, aligned, align_by, alignment_of, align_to_next}
use Rattle.luck_pack.specs.Pack.{kind_turn, option_turn, pack_turn, pack_end, pack_walk}
use Rattle.luck_pack.specs.Inner.{
  kept_as,
  kept,
  Kept,
  keeps,
  faults,
  kept_read,
  kept_plain,
  kept_alignment,
  kept_turn,
  with_value,
}
use Rattle.luck_pack.specs.declared.pack.PackOption.{PackOption}
use Rattle.luck_pack.specs.declared.pack.PackOption.TheVariants.{FixedString}

-- ---- A number

-- a number out of limits stays so where it is cut off at the largest
outside_still : (n value : ℕ) → n ≡ min value most → between 1 16 n ≡ false → between 1 16 value ≡ false
outside_still n value e h = by_order (order 16 value)
  where
    by_order : (16 < value) ⊎ (value ≤ 16) → between 1 16 value ≡ false
    by_order (inl l) = above 1 16 value l
    by_order (inr g) = let same : n ≡ value = omega (arith, e) in subst (λ (x : ℕ). between 1 16 x ≡ false) same h

module _ (letter : ℕ) (text : List ℕ) (p count : ℕ) (digits : count ≡ run is_digit (drop p text)) where
  pub default_size : count ≡ 0 → option (pack_option letter None) 1 ≡ getnumlimit letter text p
  unfolding getnumlimit when◌then◌else◌
  default_size h = rw (eq-eqb (run is_digit (drop p text)) 0 (sym digits ∙ h))

  module _ (some_digit : count ≡ 0 → ⊥) (n : ℕ) (number : n ≡ min (numeral 10 (part text p (p + count))) most) where
    there : eqb (run is_digit (drop p text)) 0 ≡ false
    there = ne_eqb (run is_digit (drop p text)) 0 (λ z. some_digit (digits ∙ z))

    spelt : n ≡ min (numeral 10 (part text p (p + run is_digit (drop p text)))) most
    spelt = number ∙ ap (λ (k : ℕ). min (numeral 10 (part text p (p + k))) most) digits

    pub size_outside : between 1 16 n ≡ false → fault (refused 16 p) ≡ getnumlimit letter text p
    unfolding getnumlimit when◌then◌else◌
    size_outside h =
        let value = numeral 10 (part text p (p + run is_digit (drop p text))) in
        rw (there, outside_still n value spelt h)

    pub size_within : between 1 16 n ≡ true → option (pack_option letter (Some n)) (1 + count) ≡ getnumlimit letter text p
    unfolding getnumlimit when◌then◌else◌
    size_within h =
        let value = numeral 10 (part text p (p + run is_digit (drop p text))) in
        let w : Between 1 16 n = between_true 1 16 n h in
        let exact : n ≡ value = omega (arith, spelt, w) in
        ap₂ (λ (k w : ℕ). option (pack_option letter (Some k)) (1 + w)) exact digits ∙ rw (there, within 1 16 value (omega (arith, w)) (omega (arith, w)))

module _ (text : List ℕ) (p count : ℕ) (digits : count ≡ run is_digit (drop p text)) where
  pub no_fixed_size : count ≡ 0 → faults (refused 15 p) ≡ kept_read (fixed_string text p)
  unfolding fixed_string kept_read when◌then◌else◌
  no_fixed_size h = rw (eq-eqb (run is_digit (drop p text)) 0 (sym digits ∙ h))

  pub fixed_size : (count ≡ 0 → ⊥) → keeps FixedString (1 + count) ≡ kept_read (fixed_string text p)
  unfolding fixed_string kept_read kept kept_as kind_of among when◌then◌else◌
  fixed_size h =
      ap (λ (w : ℕ). keeps FixedString (1 + w)) digits ∙ rw (ne_eqb (run is_digit (drop p text)) 0 (λ z. h (digits ∙ z)))

-- ---- An option with a number

module _ (text : List ℕ) (p : ℕ) where
  pub limited : among (byte_at text p) limited_letters ≡ true → getnumlimit (byte_at text p) text (p + 1) ≡ numbered_option text p
  unfolding numbered_option
  limited e = sym (if_true _ _ _ e)

  module _ (unlimited : among (byte_at text p) limited_letters ≡ false) where
    pub fixed_string_lem : byte_at text p ≡ code "c" → kept_read (fixed_string text (p + 1)) ≡ kept_read (numbered_option text p)
    unfolding numbered_option when◌then◌else◌
    fixed_string_lem e = rw (unlimited, eq-eqb (byte_at text p) (code "c") e)

    pub unknown_option : (byte_at text p ≡ code "c" → ⊥) → faults (refused_with 14 p (char_at text p).code) ≡ kept_read (numbered_option text p)
    unfolding numbered_option kept_read when◌then◌else◌
    unknown_option e = rw (unlimited, ne_eqb (byte_at text p) (code "c") e)

  -- ---- The option at p

  pub no_option : length text ≤ p → faults (refused 15 p) ≡ kept_read (getoption text p)
  unfolding getoption kept_read when◌then◌else◌
  no_option h = rw (le-leb (length text) p h)

  unfoldable plain_by : Option PackOption → Kept
  plain_by (Some o) = keeps o 1
  plain_by None = kept_read (numbered_option text p)

  module _ (h : p < length text) where
    by_plain : plain_by (kept_plain (byte_at text p)) ≡ kept_read (getoption text p)
    unfolding plain_by kept_plain getoption kept_read when◌then◌else◌
    by_plain = go (among (byte_at text p) bare_letters) refl
      where
        go : (t : Bool) → among (byte_at text p) bare_letters ≡ t → plain_by (kept_plain (byte_at text p)) ≡ kept_read (getoption text p)
        go true q = rw (lt-leb (length text) p h, q)
        go false q = rw (lt-leb (length text) p h, q)

    pub plain_read_lem : (o : PackOption) → Some o ≡ kept_plain (byte_at text p) → keeps o 1 ≡ kept_read (getoption text p)
    unfolding plain_by
    plain_read_lem o e = ap plain_by e ∙ by_plain

    pub sized_read : None ≡ kept_plain (byte_at text p) → kept_read (numbered_option text p) ≡ kept_read (getoption text p)
    unfolding plain_by
    sized_read e = ap plain_by e ∙ by_plain

-- ---- Alignment

module _ (p width n largest : ℕ) (has : Bool) (values : ℕ) where
  pub misaligned : is_misaligned n largest ≡ true → stop (refused 17 p) ≡ aligned p width n (pack_state values largest) (with_value has values largest)
  unfolding aligned
  misaligned e = sym (if_true _ _ _ e)

  pub well_aligned : is_misaligned n largest ≡ false
      → goes width (with_value has values largest) ≡ aligned p width n (pack_state values largest) (with_value has values largest)
  unfolding aligned
  well_aligned e = sym (if_false _ _ _ e)

-- ---- What the code does with what it keeps

kept_alignment_lem : (k : KOption) (o : Given) → kept_alignment (kept_as k o) ≡ alignment_of luck_size k o
unfolding kept_as alignment_of
kept_alignment_lem Kint o = refl
kept_alignment_lem Kuint o = refl
kept_alignment_lem Kfloat o = refl
kept_alignment_lem Knumber o = refl
kept_alignment_lem Kdouble o = refl
kept_alignment_lem Kchar o = refl
kept_alignment_lem Kstring o = refl
kept_alignment_lem Kzstr o = refl
kept_alignment_lem Kpadding o = refl
kept_alignment_lem Kpaddalign o = refl
kept_alignment_lem Knop o = by_test (λ x. kept_alignment x ≡ None) _ _ _ (λ _. refl) (λ _. refl)

module _ (packsize : Bool) (text : List ℕ) (p : ℕ) (s : PackState) where
  kept_nop : (o : Given) (width : ℕ) → kept_turn packsize text p s (keeps (kept_as Knop o) width) ≡ kind_turn luck_size packsize text p s width o Knop
  unfolding kept_turn kept_as kind_turn maxalign when◌then◌else◌
  kept_nop o width = go (eqb o.letter (code "!")) refl
    where
      go : (t : Bool) → eqb o.letter (code "!") ≡ t → kept_turn packsize text p s (keeps (kept_as Knop o) width) ≡ kind_turn luck_size packsize text p s width o Knop
      go true q = rw (q, kept_turn)
      go false q = rw (q, kept_turn)

  kept_kind : (k : KOption) (o : Given) (width : ℕ) → kept_turn packsize text p s (keeps (kept_as k o) width) ≡ kind_turn luck_size packsize text p s width o k
  unfolding kept_turn kept_as kind_turn
  kept_kind Kint o width = refl
  kept_kind Kuint o width = refl
  kept_kind Kfloat o width = refl
  kept_kind Knumber o width = refl
  kept_kind Kdouble o width = refl
  kept_kind Kchar o width = refl
  kept_kind Kstring o width = refl
  kept_kind Kzstr o width = refl
  kept_kind Kpadding o width = refl
  kept_kind Kpaddalign o width = refl
  kept_kind Knop o width = kept_nop o width

  kept_turn_lem : (r : OptionRead) → kept_turn packsize text p s (kept_read r) ≡ option_turn luck_size packsize text p s r
  unfolding kept_read kept kept_turn option_turn
  kept_turn_lem (option o width) = kept_kind (kind_of o.letter) o width
  kept_turn_lem (fault answer) = refl

-- ---- `X`

module _ (text : List ℕ) (p : ℕ) (s : PackState) where
  -- `X` before what the code keeps of an option
  unfoldable pub kept_next : Kept → Turn PackState Answer
  kept_next (keeps o width) = align_by text p s width (kept_alignment o)
  kept_next (faults answer) = stop answer

  kept_next_lem : (r : OptionRead) → kept_next (kept_read r) ≡ align_to_next luck_size text p s r
  unfolding kept_next kept_read kept align_to_next
  kept_next_lem (option o width) = ap (align_by text p s width) (kept_alignment_lem (kind_of o.letter) o)
  kept_next_lem (fault answer) = refl

  pub by_next : {k : Kept} → k ≡ kept_read (getoption text (p + 1)) → kept_next k ≡ align_to_next luck_size text p s (getoption text (p + 1))
  by_next e = ap kept_next e ∙ kept_next_lem (getoption text (p + 1))

-- ---- The option at p and its turn

module _ (packsize : Bool) (text : List ℕ) (p : ℕ) (s : PackState) where
  pub by_kept : {k : Kept} → k ≡ kept_read (getoption text p) → kept_turn packsize text p s k ≡ pack_turn luck_size packsize text p s
  unfolding pack_turn
  by_kept e = ap (kept_turn packsize text p s) e ∙ kept_turn_lem packsize text p s (getoption text p)

-- ---- The walk

module _ (packsize : Bool) (text : List ℕ) where
  abbrev pub on : ℕ → PackState → Answer
  on p s = walk_from (pack_turn luck_size packsize text) pack_end (length text) p s

  pub start : on 0 (pack_state 0 1) ≡ pack_walk packsize text
  unfolding pack_walk
  start = refl

  module _ (p values largest : ℕ) (whole : Answer) (h : on p (pack_state values largest) ≡ whole) where
    pub goes_on : (width : ℕ) (after : PackState) → 0 < width → p + width ≤ length text
        → goes width after ≡ pack_turn luck_size packsize text p (pack_state values largest) → on (p + width) after ≡ whole
    goes_on width after f i is =
        sym (walk_goes (pack_turn luck_size packsize text) pack_end (length text) p (pack_state values largest) width after f i (sym is)) ∙ h

    pub stops : (answer : Answer) → p < length text → stop answer ≡ pack_turn luck_size packsize text p (pack_state values largest) → answer ≡ whole
    stops answer l is = sym (walk_stop (pack_turn luck_size packsize text) pack_end (length text) p (pack_state values largest) answer l (sym is)) ∙ h

    pub done : length text ≤ p → accepted values ≡ whole
    unfolding pack_end
    done l = sym (walk_end (pack_turn luck_size packsize text) pack_end (length text) p (pack_state values largest) l) ∙ h

-- the values after an option with or without one
pub counted : (has : Bool) (values next after : ℕ) → ((has ≡ true) × (after ≡ values + 1)) ⊎ ((has ≡ false) × (after ≡ values))
    → with_value has values next ≡ pack_state after next
counted has values next after (inl w) = rw (w.0, w.1)
counted has values next after (inr w) = rw (w.0, w.1)
