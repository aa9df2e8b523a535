-- Laws of a format's check: each way through the modifiers, through a conversion, and on to the next specifier.
-- Assumes nothing.
use Prim.Native.Nat.{ℕ, ◌+◌, ◌-◌, ◌≤◌, ◌<◌}
use native.Mathlib.Omega.{arith}
use mathlib.Core.Path.{◌≡◌, refl, sym, ap, ◌∙◌}
use mathlib.Core.Bool.{Bool, true, false, ◌&&◌}
use mathlib.Core.Logic.{⊎_elim}
use mathlib.Core.List.{List}
use lib.ListN.{length, drop, get_or-eq_default}
use lib.Dec.{eqb}
use borrow.Author.Tests.{lt-ltb, le-ltb, le-leb, lt-leb, eq-eqb, ne_eqb}
use Rattle.luck_text.specs.Bytes.{when◌then◌else◌, byte_at, ascii, among, is_digit, run}
use Rattle.luck_utf8.specs.Utf8.{char_at}
use Rattle.luck_text.specs.Walk.{stop, goes, walk_from}
use Rattle.luck_token.specs.declared.version.Rules.{Rules}
use Rattle.luck_text.proofs.Cases.{order, by_test, if_true, if_false, first_false, second_false, both_true}
use Rattle.luck_text.proofs.Bytes.{run_inside}
use Rattle.luck_text.proofs.Walk.{walk_end, walk_stop, walk_goes}
use Rattle.luck_answer.specs.declared.format_pattern.PatternError.{PatternError}
use Rattle.luck_answer.specs.declared.format_pattern.PatternError.TheVariants.{BadWidth, BadPrecision}
use Rattle.luck_answer.specs.Answer.{Answer, accepted, refused, refused_with, refused_both, refusal}
use Rattle.luck_format.specs.Format.{
  is_flag,
  is_modifier,
  Modifiers,
  end_at,
  fault,
  get_format,
  scan_precision,
  scan_width,
  scan_format,
  modifiers_at,
  is_conversion,
  flags_for,
  flags_run,
  takes_precision,
  after_two_digits,
  good_modifiers,
  conversion_turn,
  specifier_turn,
  percent_turn,
  format_turn,
  format_end,
  format_walk,
}
use Rattle.luck_format.specs.Inner.{two_digits}

-- ---- Modifiers

module _ (text : List ℕ) (p count : ℕ) where
  module _ (q : count ≡ run (λ b. among b (ascii "-+ #0123456789.")) (drop p text)) where
    pub long_specifier : 21 ≤ count → fault (refused 7 p) ≡ get_format text p
    unfolding get_format is_modifier when◌then◌else◌
    long_specifier h = rw (← q, le-leb 21 count h)

    pub short_specifier : count < 21 → end_at (p + count) ≡ get_format text p
    unfolding get_format is_modifier when◌then◌else◌
    short_specifier h = rw (← q, lt-leb 21 count h)

  module _ (q : count ≡ run is_digit (drop p text)) (e : PatternError) where
    pub many_digits : 2 < count → fault (refusal e) ≡ two_digits text p e
    unfolding two_digits when◌then◌else◌
    many_digits h = rw (← q, lt-ltb 2 count h)

    pub few_digits : count ≤ 2 → end_at (p + count) ≡ two_digits text p e
    unfolding two_digits when◌then◌else◌
    few_digits h = rw (← q, le-ltb 2 count h)

  module _ (q : count ≡ run (λ b. among b (ascii "-+ #0")) (drop p text)) where
    pub many_flags : 6 ≤ count → fault (refused_with 3 (p + 5) (byte_at text (p + 5))) ≡ scan_format text p
    unfolding scan_format is_flag when◌then◌else◌
    many_flags h = rw (← q, le-leb 6 count h)

    pub few_flags : count < 6 → scan_width text (p + count) ≡ scan_format text p
    unfolding scan_format is_flag when◌then◌else◌
    few_flags h = rw (← q, lt-leb 6 count h)

module _ (text : List ℕ) (p : ℕ) where
  pub precision : two_digits text (p + 1) (BadPrecision (p + 1)) ≡ scan_precision text p
  unfolding two_digits scan_precision
  precision = refl

  -- a precision behind a width
  unfoldable behind : Modifiers → Modifiers
  behind (end_at e) = let more = scan_precision text e in when eqb (byte_at text e) 46 then more else end_at e
  behind (fault answer) = fault answer

  by_width : behind (two_digits text p (BadWidth p)) ≡ scan_width text p
  unfolding behind two_digits scan_width
  by_width = by_test (λ (m : Modifiers). behind m ≡ scan_width text p) _ _ _ (λ t. sym (if_true _ _ _ t)) (λ t. sym (if_false _ _ _ t))

  pub bad_width : {answer : Answer} → fault answer ≡ two_digits text p (BadWidth p) → fault answer ≡ scan_width text p
  unfolding behind
  bad_width is = ap behind is ∙ by_width

  module _ {e : ℕ} (is : end_at e ≡ two_digits text p (BadWidth p)) where
    pub width_and_dot : byte_at text e ≡ 46 → scan_precision text e ≡ scan_width text p
    unfolding behind
    width_and_dot d = sym (if_true _ _ _ (eq-eqb (byte_at text e) 46 d)) ∙ ap behind is ∙ by_width

    pub width_alone : (byte_at text e ≡ 46 → ⊥) → end_at e ≡ scan_width text p
    unfolding behind
    width_alone n = sym (if_false _ _ _ (ne_eqb (byte_at text e) 46 n)) ∙ ap behind is ∙ by_width

-- ---- The conversion

module _ (b : ℕ) (text : List ℕ) (p : ℕ) where
  pub flags_inside : p ≤ length text → p + flags_run b text p ≤ length text
  unfolding flags_run
  flags_inside h = run_inside (λ x. among x (flags_for b)) text p h

  pub no_modifiers : b ≡ 113 → p ≡ good_modifiers b text p
  unfolding good_modifiers when◌then◌else◌
  no_modifiers e = rw (eq-eqb b 113 e)

  module _ (n : b ≡ 113 → ⊥) (count : ℕ) (q : count ≡ flags_run b text p) where
    pub zero_stays : byte_at text (p + count) ≡ 48 → p + count ≡ good_modifiers b text p
    unfolding good_modifiers when◌then◌else◌
    zero_stays e = rw (ne_eqb b 113 n, ← q, eq-eqb (byte_at text (p + count)) 48 e)

    -- behind the flags stands a width, which may be empty, and ends here
    module _ (z : byte_at text (p + count) ≡ 48 → ⊥) (width : ℕ) (w : width ≡ after_two_digits text (p + count)) where
      abbrev by_dot : Bool → ℕ
      by_dot t = when t then after_two_digits text (width + 1) else width

      widened : by_dot (takes_precision b && eqb (byte_at text width) 46) ≡ good_modifiers b text p
      unfolding good_modifiers when◌then◌else◌
      widened = rw (ne_eqb b 113 n, ← q, ne_eqb (byte_at text (p + count)) 48 z, ← w)

      pub no_precision : takes_precision b ≡ false → width ≡ good_modifiers b text p
      unfolding when◌then◌else◌
      no_precision t = ap by_dot (sym (first_false (takes_precision b) _ t)) ∙ widened

      pub dot_passed : takes_precision b ≡ true → byte_at text width ≡ 46 → after_two_digits text (width + 1) ≡ good_modifiers b text p
      unfolding when◌then◌else◌
      dot_passed t e = ap by_dot (sym (both_true (takes_precision b) _ t (eq-eqb (byte_at text width) 46 e))) ∙ widened

      pub no_dot : (byte_at text width ≡ 46 → ⊥) → width ≡ good_modifiers b text p
      unfolding when◌then◌else◌
      no_dot e = ap by_dot (sym (second_false (takes_precision b) _ (ne_eqb (byte_at text width) 46 e))) ∙ widened

-- ---- A specifier

module _ (rules : Rules) (text : List ℕ) (p e count : ℕ) where
  pub cut_off : length text ≤ e → stop (refused 1 p) ≡ conversion_turn rules text p count e
  unfolding conversion_turn when◌then◌else◌
  cut_off h = rw (le-leb (length text) e h)

  module _ (h : e < length text) where
    pub unknown : is_conversion rules (byte_at text e) ≡ false → stop (refused_with 2 e (char_at text e).code) ≡ conversion_turn rules text p count e
    unfolding conversion_turn when◌then◌else◌
    unknown n = rw (lt-leb (length text) e h, n)

    module _ (k : is_conversion rules (byte_at text e) ≡ true) where
      pub bad_modifier : (good : ℕ) → good ≡ good_modifiers (byte_at text e) text (p + 1) → rules.checked_format_modifiers ≡ true → good < e
          → stop (refused_both 6 good (byte_at text good) (byte_at text e)) ≡ conversion_turn rules text p count e
      unfolding conversion_turn when◌then◌else◌
      bad_modifier good q r g = rw (lt-leb (length text) e h, k, r, ← q, lt-ltb good e g)

      pub good_modifiers_lem : (good : ℕ) → good ≡ good_modifiers (byte_at text e) text (p + 1) → rules.checked_format_modifiers ≡ true → e ≤ good
          → goes (e + 1 - p) (count + 1) ≡ conversion_turn rules text p count e
      unfolding conversion_turn when◌then◌else◌
      good_modifiers_lem good q r g = rw (lt-leb (length text) e h, k, r, ← q, le-ltb good e g)

      pub unchecked : rules.checked_format_modifiers ≡ false → goes (e + 1 - p) (count + 1) ≡ conversion_turn rules text p count e
      unfolding conversion_turn when◌then◌else◌
      unchecked r = rw (lt-leb (length text) e h, k, r)

two_wide : (p : ℕ) → p + 2 - p ≡ 2
two_wide p = omega arith

module _ (rules : Rules) (text : List ℕ) (p count : ℕ) where
  pub lone_percent : length text ≤ p + 1 → stop (refused 1 p) ≡ percent_turn rules text p count
  unfolding percent_turn when◌then◌else◌
  lone_percent h = rw (le-leb (length text) (p + 1) h)

  module _ (h : p + 1 < length text) where
    pub two_percents : byte_at text (p + 1) ≡ 37 → goes (p + 2 - p) count ≡ percent_turn rules text p count
    unfolding percent_turn when◌then◌else◌
    two_percents e = rw (two_wide p, lt-leb (length text) (p + 1) h, eq-eqb (byte_at text (p + 1)) 37 e)

    module _ (n : byte_at text (p + 1) ≡ 37 → ⊥) where
      pub star : (eqb (byte_at text (p + 1)) 42 && rules.star_format) ≡ true → goes (p + 2 - p) (count + 1) ≡ percent_turn rules text p count
      unfolding percent_turn when◌then◌else◌
      star e = rw (two_wide p, lt-leb (length text) (p + 1) h, ne_eqb (byte_at text (p + 1)) 37 n, e)

      module _ (m : (eqb (byte_at text (p + 1)) 42 && rules.star_format) ≡ false) where
        pub after_modifiers : (e : ℕ) → end_at e ≡ modifiers_at rules.checked_format_modifiers text (p + 1)
            → conversion_turn rules text p count e ≡ percent_turn rules text p count
        unfolding percent_turn specifier_turn when◌then◌else◌
        after_modifiers e q = rw (lt-leb (length text) (p + 1) h, ne_eqb (byte_at text (p + 1)) 37 n, m, ← q)

        pub faulty_modifiers : (answer : Answer) → fault answer ≡ modifiers_at rules.checked_format_modifiers text (p + 1)
            → stop answer ≡ percent_turn rules text p count
        unfolding percent_turn specifier_turn when◌then◌else◌
        faulty_modifiers answer q = rw (lt-leb (length text) (p + 1) h, ne_eqb (byte_at text (p + 1)) 37 n, m, ← q)

-- ---- The walk

-- a byte that is not zero stands in the text
byte_inside : (text : List ℕ) (p b : ℕ) → byte_at text p ≡ b → 0 < b → p < length text
byte_inside text p b e h = ⊎_elim (λ l. l) (λ g. absurd (omega (arith, get_or-eq_default text 0 {n = p} g))) (order p (length text))

module _ (rules : Rules) (text : List ℕ) where
  abbrev pub on : ℕ → ℕ → Answer
  on p count = walk_from (format_turn rules text) format_end (length text) p count

  pub start : on 0 0 ≡ format_walk rules text
  unfolding format_walk
  start = refl

  module _ (p count : ℕ) (whole : Answer) (w : on p count ≡ whole) where
    pub done : length text ≤ p → accepted count ≡ whole
    unfolding format_end
    done h = sym (walk_end (format_turn rules text) format_end (length text) p count h) ∙ w

    module _ (h : p < length text) where
      plain_step : (byte_at text p ≡ 37 → ⊥) → format_turn rules text p count ≡ goes 1 count
      unfolding format_turn when◌then◌else◌
      plain_step n = rw (ne_eqb (byte_at text p) 37 n)

      pub plain_turn : (byte_at text p ≡ 37 → ⊥) → on (p + 1) count ≡ whole
      plain_turn n = sym (walk_goes (format_turn rules text) format_end (length text) p count 1 count (omega arith) (omega arith) (plain_step n)) ∙ w

      module _ (e : byte_at text p ≡ 37) where
        percent_step : format_turn rules text p count ≡ percent_turn rules text p count
        unfolding format_turn when◌then◌else◌
        percent_step = rw (eq-eqb (byte_at text p) 37 e)

        pub goes_on : (q after : ℕ) → goes (q - p) after ≡ percent_turn rules text p count → p < q → q ≤ length text → on q after ≡ whole
        goes_on q after s f i =
            let there : q ≡ p + (q - p) = omega arith in
            ap (λ k. on k after) there ∙ sym (walk_goes (format_turn rules text) format_end (length text) p count (q - p) after (omega arith) (omega arith) (percent_step ∙ sym s)) ∙ w

        pub percents : byte_at text (p + 1) ≡ 37 → (p + 2 ≤ length text) × (on (p + 2) count ≡ whole)
        percents f =
            let i = byte_inside text (p + 1) 37 f (omega arith) in
            (omega arith, goes_on (p + 2) count (two_percents rules text p count i f) (omega arith) (omega arith))

        pub stops : (answer : Answer) → stop answer ≡ percent_turn rules text p count → answer ≡ whole
        stops answer s = sym (walk_stop (format_turn rules text) format_end (length text) p count answer h (percent_step ∙ sym s)) ∙ w
