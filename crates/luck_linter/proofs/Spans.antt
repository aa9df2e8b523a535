-- Which answers of a literal have a span: the refusals of its body. A literal that is skipped has nothing else.
-- Assumes nothing.
use Rattle.std.specs.Prelude.{Option, None, Some}
use Prim.Native.Nat.{ℕ}
use mathlib.Core.Logic.{◌↔◌}
use mathlib.Core.Path.{◌≡◌, refl, sym, ◌∙◌}
use mathlib.Core.Bool.{true, false, true≢false}
use mathlib.Core.List.{List, [], ◌∷◌}
use lib.ListN.{length}
use lib.Dec.{eqb}
use borrow.Author.Tests.{eqb-false}
use Rattle.luck_text.specs.Bytes.{among}
use Rattle.luck_text.proofs.Cases.{by_test}
use Rattle.luck_token.specs.Version.{rules_of}
use Rattle.luck_token.specs.declared.version.Rules.{Rules}
use Rattle.luck_token.specs.declared.span.Span.{Span}
use Rattle.luck_answer.specs.Answer.{Answer, accepted, refused, check_text}
use Rattle.luck_answer.proofs.Texts.{in_any_case}
use Rattle.luck_linter.specs.Checks.{Check, check_of, walk_of, numbers}
use Rattle.luck_linter.specs.StringLiteral.{LiteralAnswer, literal_check, skipped_answer, unspanned, spanned_answer, span_at, with_span, body_of, check_body, check_short, check_named_literal, check_literal}
use Rattle.luck_linter.proofs.Counts.{walked_own}
use Rattle.luck_linter.proofs.Checked.{literal_walk_bounded}

-- the numbers that have no span: accepted, and what comes before the body is read
abbrev pub spanless : List ℕ
spanless = 0 ∷ 23 ∷ 25 ∷ 30 ∷ []

pub record Marked (a : LiteralAnswer) : Type 0 where
  pub skipped_empty : a.skipped ≡ true → a ≡ skipped_answer
  pub spanned_where : (a.spanned ≡ true) ↔ (among a.answer.number spanless ≡ false)
  pub span_of_others : a.spanned ≡ false → a.span ≡ record { start = 0; end = 0 }

skipped_marked : Marked skipped_answer
unfolding among
skipped_marked = record { skipped_empty = λ e. refl; spanned_where = (λ e. sym e, λ e. sym e); span_of_others = λ e. refl }

unspanned_marked : (answer : Answer) → among answer.number spanless ≡ true → Marked (unspanned answer)
unspanned_marked answer h =
    record {
      skipped_empty = λ e. absurd (true≢false (sym e));
      spanned_where = (λ e. absurd (true≢false (sym e)), λ e. absurd (true≢false (sym h ∙ e)));
      span_of_others = λ e. refl;
    }

spanned_marked : (answer : Answer) (span : Span) → among answer.number spanless ≡ false → Marked (spanned_answer answer span)
spanned_marked answer span h =
    record {
      skipped_empty = λ e. absurd (true≢false (sym e));
      spanned_where = (λ e. h, λ e. refl);
      span_of_others = λ e. absurd (true≢false e);
    }

accepted_spanless : (n : ℕ) → eqb n 0 ≡ true → among n spanless ≡ true
unfolding among
accepted_spanless n e = rw e

module _ (check : Check) (start : ℕ) where
  body_marked : (rules : Rules) (body : List ℕ) → Marked (check_body check rules start body)
  unfolding check_body with_span
  body_marked rules body =
      let walked = walk_of (literal_check check body) rules body in
      by_test Marked _ _ _ (λ _. skipped_marked)
      (λ _. by_test Marked (eqb walked.number 0) _ _ (λ e. unspanned_marked walked (accepted_spanless walked.number e))
      (λ e.
      spanned_marked walked (span_at start body walked.offset)
      (walked_own (length body) (numbers check) walked (literal_walk_bounded check rules body) (eqb-false walked.number 0 e))))

  short_marked : (rules : Rules) (text : List ℕ) → Marked (check_short check rules start text)
  unfolding check_short
  short_marked rules text = by_test Marked _ _ _ (λ _. body_marked rules (body_of text)) (λ _. skipped_marked)

-- what comes before every check
tested_spanless : (version : ℕ) (text : List ℕ) → among (check_text version text (accepted 0)).number spanless ≡ true
unfolding among
tested_spanless version text =
    in_any_case version text (accepted 0) (λ (a : Answer). among a.number spanless ≡ true) refl (λ place h. refl) refl

named_marked : (named : Option Check) (start version : ℕ) (text : List ℕ) → Marked (check_named_literal named version start text)
unfolding check_named_literal among
named_marked None start version text = unspanned_marked (refused 30 0) refl
named_marked (Some check) start version text =
    by_test Marked _ _ _ (λ _. short_marked check start (rules_of version) text)
    (λ _. unspanned_marked (check_text version text (accepted 0)) (tested_spanless version text))

pub literal_marked : (kind : ℕ) (captures : Option ℕ) (start version : ℕ) (text : List ℕ) → Marked (check_literal kind version captures start text)
unfolding check_literal
literal_marked kind captures start version text = named_marked (check_of kind captures) start version text
