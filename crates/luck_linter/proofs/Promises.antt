-- What the checks promise. First the check of a literal, where a kind letter names a check, the version is one of the
-- six and the text is UTF-8; in every other case the answer is 30, 25 or 23, by the definition. F-6 and F-10 of document
-- 02 are among it. At the end every check of a body that is not UTF-8, as the value of a literal can be (F-4).
-- Assumes nothing.
use Rattle.std.specs.Prelude.{Option, None, Some}
use Prim.Native.Nat.{ℕ, ◌+◌, ◌-◌, ◌<◌, ◌≤◌}
use Prim.Native.Char.{code}
use native.Mathlib.Omega.{arith}
use mathlib.Core.Path.{◌≡◌, refl, sym, ap, ◌∙◌}
use mathlib.Core.Bool.{Bool, true, false, not, ◌&&◌, ◌||◌, true≢false}
use mathlib.Core.List.{List, ◌++◌}
use lib.ListN.{length}
use lib.Dec.{eqb, leb}
use borrow.Author.Tests.{leb-true, eqb-true}
use Rattle.luck_text.specs.Bytes.{when◌then◌else◌, byte_at}
use Rattle.luck_text.proofs.Cases.{by_test, if_true, if_false, and_left, and_right}
use Rattle.luck_utf8.specs.Utf8.{ill_formed, is_char, utf8_bytes}
use Rattle.luck_utf8.proofs.Parts.{between_ascii}
use Rattle.luck_utf8.proofs.Promises.{first_ill_formed}
use Rattle.luck_token.specs.Version.{is_version, rules_of}
use Rattle.luck_token.specs.Literal.{is_short}
use Rattle.luck_token.specs.Span.{span_of}
use Rattle.luck_answer.specs.Answer.{Answer, accepted, refused, check_text}
use Rattle.luck_answer.proofs.Texts.{text_fine, text_ill_formed}
use Rattle.luck_replacement.proofs.Promises.{UnknownOrFromNine, walk_accepts}
use Rattle.luck_linter.specs.Computed.{computed}
use Rattle.luck_linter.specs.Checks.{Check, replacement, check_of, without_ranges, walk_of, answer}
use Rattle.luck_linter.specs.StringLiteral.{LiteralAnswer, has_numeric_escape, has_backslash, literal_check, skipped_answer, unspanned, with_span, body_of, check_body, check_short, check_named_literal, check_literal}
use Rattle.luck_linter.proofs.Checked.{whole_check}
use Rattle.luck_linter.proofs.Reversed.{reversed_body}
use Rattle.luck_linter.proofs.StringLiterals as literals

-- a literal is skipped exactly where its text is no short string or its body has an escape `\0` to `\9`, `\x` or `\u`
abbrev pub SkippedExactly : LiteralAnswer → List ℕ → Type 0
SkippedExactly a text = a.skipped ≡ (not (is_short text) || has_numeric_escape (body_of text))

-- the answer of a literal that is not skipped is that of the check on its body; where a backslash stands there, of the check without its test of ranges
abbrev pub AnswersBody : Check → ℕ → LiteralAnswer → List ℕ → Type 0
AnswersBody check version a text =
    a.skipped ≡ false
    → (has_backslash (body_of text) ≡ false → a.answer ≡ answer check version (body_of text))
    × (has_backslash (body_of text) ≡ true → a.answer ≡ answer (without_ranges check) version (body_of text))

-- accepted if it is not skipped; `literal_accepted` promises it of a replacement of 5.1 with captures unknown, or known to be 9 or more (F-6)
abbrev pub SkippedOrAccepted : LiteralAnswer → Type 0
SkippedOrAccepted a = a.skipped ≡ false → a ≡ unspanned (accepted 0)

-- 39 of a literal comes only where no backslash stands in its body; its span is that one byte, saturating in `u32` (F-10)
abbrev pub ReversedSpan : ℕ → LiteralAnswer → List ℕ → Type 0
ReversedSpan start a text =
    a.answer.number ≡ 39
    → (has_backslash (body_of text) ≡ false) × (a.span ≡ span_of (start + 1 + a.answer.offset) (start + 1 + a.answer.offset + 1))

-- ---- Their proofs

-- a short string has two bytes at least, and its quotes are ASCII
quote_low : (b : ℕ) → (eqb b 34 || eqb b 39) ≡ true → b < 0x80
quote_low b e = go (eqb b 34) refl e
  where
    go : (t : Bool) → eqb b 34 ≡ t → (t || eqb b 39) ≡ true → b < 0x80
    go true q e = omega (arith, eqb-true b 34 q)
    go false q e = omega (arith, eqb-true b 39 e)

quotes_low : (text : List ℕ) → is_short text ≡ true → (2 ≤ length text) × (byte_at text 0 < 0x80) × (byte_at text (length text - 1) < 0x80)
unfolding is_short
quotes_low text s =
    let front = and_left _ (eqb (byte_at text (length text - 1)) (byte_at text 0)) s in
    let same = eqb-true (byte_at text (length text - 1)) (byte_at text 0) (and_right (leb 2 (length text) && (eqb (byte_at text 0) 34 || eqb (byte_at text 0) 39)) _ s) in
    let low = quote_low (byte_at text 0) (and_right (leb 2 (length text)) _ front) in
    (leb-true 2 (length text) (and_left _ (eqb (byte_at text 0) 34 || eqb (byte_at text 0) 39) front), low, omega (arith, same, low))

span_keeps : (start : ℕ) (body : List ℕ) (a : Answer) → ((with_span start body a).skipped ≡ false) × ((with_span start body a).answer ≡ a)
unfolding with_span
span_keeps start body a = by_test (λ (l : LiteralAnswer). (l.skipped ≡ false) × (l.answer ≡ a)) _ _ _ (λ _. (refl, refl)) (λ _. (refl, refl))

-- the two tests of whether to skip
abbrev skipping : Bool → Bool → LiteralAnswer → LiteralAnswer
skipping short numeric a = when short then (when numeric then skipped_answer else a) else skipped_answer

skips : (short numeric : Bool) (a : LiteralAnswer) → a.skipped ≡ false → (skipping short numeric a).skipped ≡ (not short || numeric)
unfolding when◌then◌else◌
skips true true a h = refl
skips true false a h = h
skips false numeric a h = refl

passed : (short numeric : Bool) (a : LiteralAnswer) → (skipping short numeric a).skipped ≡ false → (short ≡ true) × (skipping short numeric a ≡ a)
unfolding when◌then◌else◌
passed true true a h = absurd (true≢false h)
passed true false a h = (refl, refl)
passed false numeric a h = absurd (true≢false h)

module _ (kind version : ℕ) (captures : Option ℕ) (start : ℕ) (text : List ℕ) (check : Check)
    (named : check_of kind captures ≡ Some check) (known : is_version version ≡ true) (utf8 : ill_formed text ≡ None) where
  abbrev literal : LiteralAnswer
  literal = check_literal kind version captures start text

  abbrev body_check : Check
  body_check = literal_check check (body_of text)

  abbrev walked : LiteralAnswer
  walked = with_span start (body_of text) (walk_of body_check (rules_of version) (body_of text))

  checked : literal ≡ skipping (is_short text) (has_numeric_escape (body_of text)) walked
  unfolding check_literal check_short check_body
  checked =
      ap (λ n. check_named_literal n version start text) named
      ∙ sym (literals.text_passes check start text version (accepted 0) (text_fine version text (accepted 0) known (sym utf8)) refl)

  pub literal_skipped : SkippedExactly literal text
  literal_skipped = ap (λ l. l.skipped) checked ∙ skips (is_short text) (has_numeric_escape (body_of text)) walked (span_keeps start (body_of text) _).0

  kept : literal.skipped ≡ false → (is_short text ≡ true) × (literal ≡ walked)
  kept h =
      let p = passed (is_short text) (has_numeric_escape (body_of text)) walked (ap (λ l. l.skipped) (sym checked) ∙ h) in
      (p.0, checked ∙ p.1)

  body_answers : literal.skipped ≡ false → literal.answer ≡ answer body_check version (body_of text)
  body_answers h =
      let p = kept h in
      let q = quotes_low text p.0 in
      let plain = between_ascii text q.0 q.1 q.2 (sym utf8) in
      ap (λ l. l.answer) p.1 ∙ (span_keeps start (body_of text) (walk_of body_check (rules_of version) (body_of text))).1
      ∙ text_fine version (body_of text) (walk_of body_check (rules_of version) (body_of text)) known plain ∙ sym (whole_check body_check version (body_of text))

  pub literal_answers : AnswersBody check version literal text
  unfolding literal_check
  literal_answers h = (
    λ b. body_answers h ∙ ap (λ c. answer c version (body_of text)) (if_false _ _ _ b),
    λ b. body_answers h ∙ ap (λ c. answer c version (body_of text)) (if_true _ _ _ b),
  )

  -- a literal that is answered 39 is not skipped
  shown : (short numeric : Bool) (a : LiteralAnswer) → (skipping short numeric a).answer.number ≡ 39 → skipping short numeric a ≡ a
  unfolding when◌then◌else◌
  shown true true a e = absurd (omega arith)
  shown true false a e = refl
  shown false numeric a e = absurd (omega arith)

  pub literal_reversed : ReversedSpan start literal text
  literal_reversed e =
      let body = body_of text in
      let is : literal ≡ walked = checked ∙ shown (is_short text) (has_numeric_escape body) walked (ap (λ l. l.answer.number) (sym checked) ∙ e) in
      let answers : literal.answer ≡ walk_of body_check (rules_of version) body = ap (λ l. l.answer) is ∙ (span_keeps start body _).1 in
      let r = reversed_body check (rules_of version) start body (ap (λ a. a.number) (sym answers) ∙ e) in
      (r.0, ap (λ l. l.span) is ∙ r.1 ∙ ap (λ a. span_of (start + 1 + a.offset) (start + 1 + a.offset + 1)) (sym answers))

pub literal_accepted : (captures : Option ℕ) (start : ℕ) (text : List ℕ) → UnknownOrFromNine captures → ill_formed text ≡ None
    → SkippedOrAccepted (check_literal (code "G") 1 captures start text)
unfolding computed
literal_accepted captures start text h utf8 e =
    (kept (code "G") 1 captures start text (replacement captures) refl refl utf8 e).1
    ∙ ap (λ c. with_span start (body_of text) (walk_of c (rules_of 1) (body_of text))) (literals.same_check (replacement captures) (body_of text) refl)
    ∙ ap (with_span start (body_of text)) (walk_accepts captures (body_of text) h)

-- ---- A text that is not UTF-8, as the value of `"\255"` is, or of `"\u{D800}"` in 5.4

module _ (version : ℕ) (known : is_version version ≡ true) (text : List ℕ) (place : ℕ) (e : ill_formed text ≡ Some place) where
  tested : (walked : Answer) → check_text version text walked ≡ refused 23 place
  tested walked = sym (text_ill_formed version text walked known place (sym e))

  -- every check of a body answers 23 at its first ill-formed sequence,
  pub ill_formed_checked : (check : Check) → answer check version text ≡ refused 23 place
  ill_formed_checked check = whole_check check version text ∙ tested (walk_of check (rules_of version) text)

  -- and so does the check of a literal, without a span
  pub ill_formed_literal : (kind : ℕ) (captures : Option ℕ) (start : ℕ) (check : Check) → check_of kind captures ≡ Some check
      → check_literal kind version captures start text ≡ unspanned (refused 23 place)
  ill_formed_literal kind captures start check named =
      sym (literals.text_refused check start text version _ (sym (tested (accepted 0))) (λ z. absurd (omega arith))
      ∙ literals.by_kind kind version captures start text (Some check) (sym named))

-- so that a check answers 23 at the first byte of a code point that has no character, where what stands before is UTF-8
pub no_character_checked : (check : Check) (version : ℕ) → is_version version ≡ true
    → (before after : List ℕ) → ill_formed before ≡ None → (c : ℕ) → c ≤ 0x7FFF_FFFF → is_char c ≡ false
    → answer check version (before ++ utf8_bytes c ++ after) ≡ refused 23 (length before)
no_character_checked check version known before after utf8 c last e =
    ill_formed_checked version known (before ++ utf8_bytes c ++ after) (length before) (first_ill_formed c last e before after utf8) check
