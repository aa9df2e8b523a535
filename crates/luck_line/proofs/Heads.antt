-- Laws of a line's head, one for each way that the code takes.
-- Assumes nothing.
use Rattle.std.specs.Prelude.{Option, None, Some}
use Prim.Native.Nat.{ℕ, ◌+◌, ◌*◌, ◌-◌, ◌≤◌, ◌<◌}
use native.Mathlib.Nat.{le_of_eq}
use native.Mathlib.Omega.{arith}
use mathlib.Core.Path.{◌≡◌, refl, ap, ap₂, ◌∙◌}
use mathlib.Core.Bool.{Bool, true, false}
use mathlib.Core.List.{List}
use lib.ListN.{length, take, drop, length-drop, get_or-eq_default}
use lib.Seq.{take_all}
use borrow.Author.Tests.{le-leb, lt-leb, eq-eqb, ne_eqb, lt-ltb, le-ltb}
use Rattle.luck_text.specs.Bytes.{when◌then◌else◌, byte_at, is_digit}
use Rattle.luck_answer.specs.Answer.{Answer, refused}
use Rattle.luck_linter.specs.Checks.{Check, check_of}
use Rattle.luck_line.specs.Line.{two_digits, capture_columns, check_with, head_check, body_answer, line_answer}

pub part_whole : (l : List ℕ) (a : ℕ) → take (length l - a) (drop a l) ≡ drop a l
part_whole l a = take_all (length l - a) (drop a l) (le_of_eq (length-drop a l))

-- ---- The columns of captures

module _ (tens units : ℕ) where
  pub tens_no_digit : is_digit tens ≡ false → None ≡ two_digits tens units
  unfolding two_digits when◌then◌else◌
  tens_no_digit e = rw e

  module _ (e : is_digit tens ≡ true) where
    pub units_no_digit : is_digit units ≡ false → None ≡ two_digits tens units
    unfolding two_digits when◌then◌else◌
    units_no_digit f = rw (e, f)

    module _ (f : is_digit units ≡ true) where
      pub below_ten : (tens - 48) * 10 + (units - 48) < 10 → None ≡ two_digits tens units
      unfolding two_digits when◌then◌else◌
      below_ten h = rw (e, f, lt-leb 10 ((tens - 48) * 10 + (units - 48)) h)

      pub above_32 : 10 ≤ (tens - 48) * 10 + (units - 48) → 32 < (tens - 48) * 10 + (units - 48) → None ≡ two_digits tens units
      unfolding two_digits when◌then◌else◌
      above_32 l h = rw (e, f, le-leb 10 ((tens - 48) * 10 + (units - 48)) l, lt-leb ((tens - 48) * 10 + (units - 48)) 32 h)

      pub counted : 10 ≤ (tens - 48) * 10 + (units - 48) → (tens - 48) * 10 + (units - 48) ≤ 32
          → Some (Some ((tens - 48) * 10 + (units - 48))) ≡ two_digits tens units
      unfolding two_digits when◌then◌else◌
      counted l h = rw (e, f, le-leb 10 ((tens - 48) * 10 + (units - 48)) l, le-leb ((tens - 48) * 10 + (units - 48)) 32 h)

  blank_no_digit : tens ≡ 32 → is_digit tens ≡ false
  unfolding is_digit
  blank_no_digit e = rw e

  pub blank : tens ≡ 32 → units ≡ 32 → Some None ≡ capture_columns tens units
  unfolding capture_columns when◌then◌else◌
  blank e f = rw (eq-eqb tens 32 e, eq-eqb units 32 f)

  module _ (e : tens ≡ 32) (f : units ≡ 32 → ⊥) where
    pub one_digit : is_digit units ≡ true → Some (Some (units - 48)) ≡ capture_columns tens units
    unfolding capture_columns when◌then◌else◌
    one_digit d = rw (eq-eqb tens 32 e, ne_eqb units 32 f, d)

    pub no_digit : is_digit units ≡ false → None ≡ capture_columns tens units
    unfolding capture_columns when◌then◌else◌
    no_digit d = rw (eq-eqb tens 32 e, ne_eqb units 32 f, d) (tens_no_digit (blank_no_digit e))

  pub two : (tens ≡ 32 → ⊥) → two_digits tens units ≡ capture_columns tens units
  unfolding capture_columns when◌then◌else◌
  two e = rw (ne_eqb tens 32 e)

-- ---- The kind

module _ (kind count : ℕ) where
  pub count_of_replacement : kind ≡ 71 → check_of kind (Some count) ≡ check_with kind (Some (Some count))
  unfolding check_with when◌then◌else◌
  count_of_replacement e = rw (eq-eqb kind 71 e)

  pub count_of_other : (kind ≡ 71 → ⊥) → None ≡ check_with kind (Some (Some count))
  unfolding check_with when◌then◌else◌
  count_of_other e = rw (ne_eqb kind 71 e)

pub ruleset kinds = (count_of_replacement, count_of_other)

misfit : (wanted : Option Check) (version : ℕ) (body : List ℕ) → None ≡ wanted → refused 30 0 ≡ body_answer wanted version body
unfolding body_answer
misfit wanted version body e = ap (λ x. body_answer x version body) e

-- ---- The line

module _ (line : List ℕ) where
  pub too_long_lem : 4005 < length line → refused 31 0 ≡ line_answer line
  unfolding line_answer when◌then◌else◌
  too_long_lem h = rw (lt-ltb 4005 (length line) h)

  module _ (h : length line ≤ 4005) where
    by_head : (a : Answer) → a ≡ body_answer (head_check line) (byte_at line 1 - 48) (drop 5 line) → a ≡ line_answer line
    unfolding line_answer when◌then◌else◌
    by_head a e = e ∙ rw (le-ltb 4005 (length line) h)

    no_version : is_digit (byte_at line 1) ≡ false → None ≡ head_check line
    unfolding head_check when◌then◌else◌
    no_version e = rw e

    pub not_a_digit : is_digit (byte_at line 1) ≡ false → refused 30 0 ≡ line_answer line
    not_a_digit e = by_head _ (misfit _ _ _ (no_version e))

    no_space : is_digit (byte_at line 1) ≡ true → (byte_at line 4 ≡ 32 → ⊥) → None ≡ head_check line
    unfolding head_check when◌then◌else◌
    no_space e f = rw (e, ne_eqb (byte_at line 4) 32 f)

    pub not_a_space : is_digit (byte_at line 1) ≡ true → (byte_at line 4 ≡ 32 → ⊥) → refused 30 0 ≡ line_answer line
    not_a_space e f = by_head _ (misfit _ _ _ (no_space e f))

    cut : (d : Bool) → is_digit (byte_at line 1) ≡ d → length line < 5 → refused 30 0 ≡ line_answer line
    cut true e s = not_a_space e (λ g. let z = get_or-eq_default line 0 {n = 4} (omega arith) in absurd (omega (arith, z, g)))
    cut false e s = not_a_digit e

    pub too_short : length line < 5 → refused 30 0 ≡ line_answer line
    too_short s = cut (is_digit (byte_at line 1)) refl s

    head : is_digit (byte_at line 1) ≡ true → byte_at line 4 ≡ 32 → check_with (byte_at line 0) (capture_columns (byte_at line 2) (byte_at line 3)) ≡ head_check line
    unfolding head_check when◌then◌else◌
    head e f = rw (e, eq-eqb (byte_at line 4) 32 f)

    pub whole_head : is_digit (byte_at line 1) ≡ true → byte_at line 4 ≡ 32 → (named : Option Check) (version : ℕ) (a : Answer)
        → named ≡ check_with (byte_at line 0) (capture_columns (byte_at line 2) (byte_at line 3)) → version ≡ byte_at line 1 - 48
        → a ≡ body_answer named version (take (length line - 5) (drop 5 line)) → a ≡ line_answer line
    whole_head e f named version a n v w =
        by_head a (w ∙ ap₂ (λ x y. body_answer named x y) v (part_whole line 5) ∙ ap (λ x. body_answer x (byte_at line 1 - 48) (drop 5 line)) (n ∙ head e f))
