-- The answers of the check of a literal. The offset of a refusal of the body, which has a span, is at most the body's length.
-- Assumes nothing.
use Rattle.std.specs.Prelude.{Option, None, Some}
use Prim.Native.Nat.{ℕ, ◌-◌, ◌≤◌}
use native.Mathlib.Omega.{arith}
use mathlib.Core.Path.{◌≡◌, refl, sym}
use mathlib.Core.Bool.{true, true≢false}
use mathlib.Core.List.{List}
use lib.ListN.{length, drop, length-take}
use Rattle.luck_text.specs.Bytes.{among}
use Rattle.luck_token.specs.Version.{rules_of}
use Rattle.luck_token.specs.declared.version.Rules.{Rules}
use Rattle.luck_text.proofs.Cases.{by_test}
use Rattle.luck_answer.specs.Answer.{Answer, accepted, check_text}
use Rattle.luck_linter.specs.Checks.{Check, check_of, walk_of, numbers, named_numbers}
use Rattle.luck_linter.specs.StringLiteral.{LiteralAnswer, literal_check, with_span, body_of, check_body, check_short, check_named_literal, check_literal}
use Rattle.luck_linter.proofs.Counts.{Walked, walked_bounded, Bounded, check_bounded}
use Rattle.luck_linter.proofs.Checked.{literal_walk_bounded, has_each}

module _ (start : ℕ) (text : List ℕ) where
  -- an answer with a span is about the body
  abbrev LiteralIn : List ℕ → LiteralAnswer → Type 0
  LiteralIn numbers a = Bounded (length text) numbers a.answer × (a.spanned ≡ true → a.answer.offset ≤ length text - 2)

  body_length : length (body_of text) ≤ length text - 2
  body_length = omega (arith, length-take (length text - 1 - 1) (drop 1 text))

  module _ (check : Check) where
    abbrev CheckedIn : LiteralAnswer → Type 0
    CheckedIn a = LiteralIn (numbers check) a

    zero_bounded : Bounded (length text) (numbers check) (accepted 0)
    zero_bounded = (omega arith, (has_each check).0, omega arith)

    span_bounded : (walked : Answer) → Walked (length (body_of text)) (numbers check) walked → CheckedIn (with_span start (body_of text) walked)
    unfolding with_span
    span_bounded walked w =
        let fits = walked_bounded (length (body_of text)) (numbers check) walked w in
        let h : walked.offset ≤ length text - 2 = omega (arith, fits.0, body_length) in
        let whole : Bounded (length text) (numbers check) walked = (omega arith, fits.1, omega (arith, fits.2, body_length)) in
        by_test CheckedIn _ _ _ (λ _. (whole, λ _. h)) (λ _. (whole, λ _. h))

    body_bounded : (rules : Rules) → CheckedIn (check_body check rules start (body_of text))
    unfolding check_body
    body_bounded rules =
        by_test CheckedIn _ _ _ (λ _. (zero_bounded, λ _. omega arith))
        (λ _. span_bounded (walk_of (literal_check check (body_of text)) rules (body_of text)) (literal_walk_bounded check rules (body_of text)))

    short_bounded : (rules : Rules) → CheckedIn (check_short check rules start text)
    unfolding check_short
    short_bounded rules = by_test CheckedIn _ _ _ (λ _. body_bounded rules) (λ _. (zero_bounded, λ _. omega arith))

    tested_bounded : (version : ℕ) → Bounded (length text) (numbers check) (check_text version text (accepted 0))
    tested_bounded version = let has = has_each check in check_bounded text (numbers check) has.1 has.2 version (accepted 0) zero_bounded

  named_bounded : (named : Option Check) (version : ℕ) → LiteralIn (named_numbers named) (check_named_literal named version start text)
  unfolding check_named_literal among
  named_bounded None version = ((omega arith, refl, omega arith), λ _. omega arith)
  named_bounded (Some check) version =
      by_test (CheckedIn check) _ _ _ (λ _. short_bounded check (rules_of version)) (λ _. (tested_bounded check version, λ e. absurd (true≢false (sym e))))

  pub literal_bounded : (kind : ℕ) (captures : Option ℕ) (version : ℕ) → LiteralIn (named_numbers (check_of kind captures)) (check_literal kind version captures start text)
  unfolding check_literal
  literal_bounded kind captures version = named_bounded (check_of kind captures) version
