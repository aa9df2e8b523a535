-- A check is what comes before every check and then its walk; its answer's number is one of its list, its offset and its count are at most the text's length.
-- Assumes nothing.
use Prim.Native.Nat.{ℕ}
use mathlib.Core.Path.{◌≡◌, refl, sym, subst}
use mathlib.Core.Bool.{true, false}
use mathlib.Core.List.{List}
use lib.ListN.{length}
use Rattle.luck_text.specs.Bytes.{among}
use Rattle.luck_text.proofs.Cases.{by_test}
use Rattle.luck_token.specs.Version.{rules_of}
use Rattle.luck_token.specs.declared.version.Rules.{Rules}
use Rattle.luck_answer.specs.Answer.{Answer, check_text}
use Rattle.luck_pattern.specs.Pattern.{check_pattern_as}
use Rattle.luck_replacement.specs.Replacement.{is_strict, check_replacement}
use Rattle.luck_format.specs.Format.{check_format}
use Rattle.luck_format.specs.Date.{checks_dates, has_date_options, check_date}
use Rattle.luck_pack.specs.Pack.{check_pack}
use Rattle.luck_linter.specs.Checks.{Check, format, pattern, date, replacement, pack, without_ranges, walk_of, answer, numbers}
use Rattle.luck_linter.specs.StringLiteral.{literal_check}
use Rattle.luck_linter.proofs.Counts.{Walked, Bounded, check_bounded}
use Rattle.luck_linter.proofs.PatternAnswers.{tested_too, pattern_bounded}
use Rattle.luck_linter.proofs.FormatAnswers.{format_bounded}
use Rattle.luck_linter.proofs.PackAnswers.{pack_bounded}
use Rattle.luck_linter.proofs.ReplacementAnswers.{replacement_bounded}
use Rattle.luck_linter.proofs.DateAnswers.{date_bounded}

pub whole_check : (check : Check) (version : ℕ) (text : List ℕ) → answer check version text ≡ check_text version text (walk_of check (rules_of version) text)
unfolding walk_of check_format check_pattern_as check_date check_replacement check_pack
whole_check format version text = refl
whole_check (pattern ranges) version text = refl
whole_check date version text = refl
whole_check (replacement captures) version text = refl
whole_check (pack packsize) version text = refl

pub walk_bounded : (check : Check) (rules : Rules) (body : List ℕ) → Walked (length body) (numbers check) (walk_of check rules body)
unfolding walk_of
walk_bounded format rules body = format_bounded body rules
walk_bounded (pattern ranges) rules body = pattern_bounded body ranges
walk_bounded date rules body = date_bounded body (has_date_options rules) (checks_dates rules)
walk_bounded (replacement captures) rules body = replacement_bounded captures body (is_strict rules)
walk_bounded (pack packsize) rules body = pack_bounded packsize body

-- without its test of ranges a check has no other numbers,
fewer_numbers : (check : Check) (text : List ℕ) (a : Answer) → Walked (length text) (numbers (without_ranges check)) a → Walked (length text) (numbers check) a
unfolding without_ranges
fewer_numbers format text a w = w
fewer_numbers date text a w = w
fewer_numbers (pattern false) text a w = w
fewer_numbers (pattern true) text a w = tested_too text a w
fewer_numbers (replacement captures) text a w = w
fewer_numbers (pack packsize) text a w = w

-- so that a literal's body has none
pub literal_walk_bounded : (check : Check) (rules : Rules) (body : List ℕ) → Walked (length body) (numbers check) (walk_of (literal_check check body) rules body)
unfolding literal_check
literal_walk_bounded check rules body =
    by_test (λ (c : Check). Walked (length body) (numbers check) (walk_of c rules body)) _ _ _
    (λ _. fewer_numbers check body (walk_of (without_ranges check) rules body) (walk_bounded (without_ranges check) rules body)) (λ _. walk_bounded check rules body)

-- every check accepts some text, and refuses by 23 and 25
pub has_each : (check : Check) → (among 0 (numbers check) ≡ true) × (among 23 (numbers check) ≡ true) × (among 25 (numbers check) ≡ true)
unfolding among
has_each format = (refl, refl, refl)
has_each (pattern false) = (refl, refl, refl)
has_each (pattern true) = (refl, refl, refl)
has_each date = (refl, refl, refl)
has_each (replacement captures) = (refl, refl, refl)
has_each (pack false) = (refl, refl, refl)
has_each (pack true) = (refl, refl, refl)

pub bounded : (check : Check) (version : ℕ) (text : List ℕ) → Bounded (length text) (numbers check) (answer check version text)
bounded check version text =
    let has = has_each check in
    subst (Bounded (length text) (numbers check)) (sym (whole_check check version text))
    (check_bounded text (numbers check) has.1 has.2 version _ (walk_bounded check (rules_of version) text))
