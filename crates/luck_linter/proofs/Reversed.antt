-- 39 of a body: it is a pattern's with its test of ranges, and of a literal's body only where no backslash stands in it; the byte that it is at is one
-- byte wide, as it stands before a hyphen.
-- Assumes nothing.
use Prim.Native.Nat.{ℕ, ◌+◌}
use native.Mathlib.Omega.{arith}
use mathlib.Core.Path.{◌≡◌, refl, sym, ap, subst, ◌∙◌}
use mathlib.Core.Logic.{⊎_elim}
use mathlib.Core.Bool.{Bool, true, false, true≢false}
use mathlib.Core.List.{List, [], ◌∷◌}
use borrow.Author.Tests.{ne_eqb}
use Rattle.luck_text.specs.Bytes.{when◌then◌else◌, among}
use Rattle.luck_text.proofs.Cases.{by_test, and_right, if_false}
use Rattle.luck_utf8.specs.Utf8.{char_at}
use Rattle.luck_utf8.proofs.Width.{one_wide}
use Rattle.luck_token.specs.Span.{span_of}
use Rattle.luck_token.specs.declared.version.Rules.{Rules}
use Rattle.luck_answer.specs.Answer.{Answer}
use Rattle.luck_replacement.specs.Replacement.{allows_digit}
use Rattle.luck_pattern.proofs.Ranges.{walk_or_39}
use Rattle.luck_linter.specs.Checks.{Check, format, pattern, date, replacement, pack, without_ranges, walk_of, numbers}
use Rattle.luck_linter.specs.StringLiteral.{LiteralAnswer, has_backslash, literal_check, span_at, with_span}
use Rattle.luck_linter.proofs.Counts.{is_walked}
use Rattle.luck_linter.proofs.Checked.{walk_bounded}

abbrev tests_ranges : Check → Bool
tests_ranges format = false
tests_ranges date = false
tests_ranges (pattern ranges) = ranges
tests_ranges (replacement captures) = false
tests_ranges (pack packsize) = false

-- ---- Which checks answer 39

no_number : (check : Check) → tests_ranges check ≡ false → among 39 (numbers check) ≡ false
unfolding among
no_number format e = refl
no_number date e = refl
no_number (pattern false) e = refl
no_number (pattern true) e = absurd (true≢false e)
no_number (replacement captures) e = by_test (λ (more : List ℕ). among 39 more ≡ false) (allows_digit captures 9) [] (21 ∷ []) (λ _. refl) (λ _. refl)
no_number (pack false) e = refl
no_number (pack true) e = refl

module _ (rules : Rules) (body : List ℕ) where
  -- a check that tests no ranges never does
  never : (check : Check) → tests_ranges check ≡ false → (walk_of check rules body).number ≡ 39 → ⊥
  never check t e =
      let walked = walk_of check rules body in
      let known = and_right (is_walked walked) (among walked.number (numbers check)) (walk_bounded check rules body).1 in
      true≢false (sym known ∙ ap (λ n. among n (numbers check)) e ∙ no_number check t)

  tested : (check : Check) → (walk_of check rules body).number ≡ 39 → tests_ranges check ≡ true
  tested check e = go (tests_ranges check) refl
    where
      go : (b : Bool) → tests_ranges check ≡ b → tests_ranges check ≡ true
      go true t = t
      go false t = absurd (never check t e)

  -- the byte at its offset is one byte wide
  narrow : (check : Check) → (walk_of check rules body).number ≡ 39 → tests_ranges check ≡ true → (char_at body (walk_of check rules body).offset).width ≡ 1
  unfolding walk_of
  narrow format e t = absurd (true≢false (sym t))
  narrow date e t = absurd (true≢false (sym t))
  narrow (pattern false) e t = absurd (true≢false (sym t))
  narrow (pattern true) e t =
      ⊎_elim (λ same. absurd (never (pattern false) refl (ap (λ (a : Answer). a.number) (sym same) ∙ e)))
      (λ r. subst (λ (k : ℕ). (char_at body k).width ≡ 1) (sym (ap (λ (a : Answer). a.offset) r.2)) (one_wide body r.0 (omega (arith, r.1.hyphen))))
      (walk_or_39 body)
  narrow (replacement captures) e t = absurd (true≢false (sym t))
  narrow (pack packsize) e t = absurd (true≢false (sym t))

-- ---- A literal's body

untested : (check : Check) → tests_ranges (without_ranges check) ≡ false
unfolding without_ranges
untested format = refl
untested date = refl
untested (pattern ranges) = refl
untested (replacement captures) = refl
untested (pack packsize) = refl

-- ranges are tested only where no backslash stands
no_backslash : (check : Check) (body : List ℕ) → tests_ranges (literal_check check body) ≡ true → has_backslash body ≡ false
unfolding literal_check
no_backslash check body e = go (has_backslash body) refl e
  where
    go : (b : Bool) → has_backslash body ≡ b → tests_ranges (when b then without_ranges check else check) ≡ true → has_backslash body ≡ false
    go true q e = absurd (true≢false (sym e ∙ (unfold when◌then◌else◌ in untested check)))
    go false q e = q

pub reversed_body : (check : Check) (rules : Rules) (start : ℕ) (body : List ℕ)
    → (walk_of (literal_check check body) rules body).number ≡ 39
    → (has_backslash body ≡ false)
    × ((with_span start body (walk_of (literal_check check body) rules body)).span
    ≡ span_of (start + 1 + (walk_of (literal_check check body) rules body).offset) (start + 1 + (walk_of (literal_check check body) rules body).offset + 1))
unfolding with_span span_at
reversed_body check rules start body e =
    let checked = literal_check check body in
    let walked = walk_of checked rules body in
    let t = tested rules body checked e in
    let from = start + 1 + walked.offset in (
      no_backslash check body t,
      ap (λ (a : LiteralAnswer). a.span) (if_false _ _ _ (ne_eqb walked.number 0 (λ z. omega arith)))
          ∙ ap (λ (width : ℕ). span_of from (from + width)) (narrow rules body checked e t),
    )
