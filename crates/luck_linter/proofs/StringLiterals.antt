-- Laws of the literal check: numeric escapes, backslashes, spans, and the outcomes.
-- Assumes nothing.
use Rattle.std.specs.Prelude.{Option, None, Some, Ok, Err}
use Prim.Native.Nat.{ℕ, suc, ◌+◌, ◌-◌, ◌≤◌, ◌<◌, min}
use native.Mathlib.Numerals.{add-one}
use native.Mathlib.Omega.{arith}
use mathlib.Core.Path.{◌≡◌, refl, sym, ap, ap₂, ◌∙◌}
use mathlib.Core.Bool.{Bool, true, false, ◌||◌}
use mathlib.Core.List.{List, [], ◌∷◌}
use lib.ListN.{length, drop, drop_of_length-le}
use lib.Seq.{drop-cons}
use lib.Dec.{eqb}
use borrow.Author.Tests.{eq-eqb, ne_eqb}
use Rattle.luck_text.specs.Bytes.{when◌then◌else◌, byte_at, part, among}
use Rattle.luck_token.specs.Version.{rules_of}
use Rattle.luck_token.specs.Literal.{is_short, short_string_body}
use Rattle.luck_token.specs.Span.{u32_max, span_of, shifted_by}
use Rattle.luck_token.specs.declared.version.Rules.{Rules}
use Rattle.luck_token.specs.declared.span.Span.{Span}
use Rattle.luck_text.proofs.Cases.{by_test, if_true, if_false}
use Rattle.luck_text.proofs.Others.{passes_others}
use Rattle.luck_token.proofs.Literals.{both_quotes}
use Rattle.luck_token.specs.declared.text.TextError.{TextError}
use Rattle.luck_token.specs.declared.text.TextError.TheVariants.{UnknownVersion, NotUtf8}
use Rattle.luck_token.specs.Text.{read_text}
use Rattle.luck_answer.proofs.Texts.{by_error, by_rules, by_walk}
use Rattle.luck_answer.specs.declared.format_pattern.PatternError.{PatternError}
use Rattle.luck_answer.specs.declared.format_pattern.PatternError.TheVariants as error
use Rattle.luck_answer.specs.Answer.{Answer, accepted, refusal, text_refused as of_text, check_text}
use Rattle.luck_linter.specs.Checks.{Check, check_of, without_ranges, walk_of}
use Rattle.luck_linter.specs.StringLiteral.{
  is_numeric_escape,
  has_numeric_escape,
  literal_check,
  skipped_answer,
  unspanned,
  spanned_answer,
  span_at,
  with_span,
  check_body,
  check_short,
  check_named_literal,
  check_literal,
}

-- ---- Numeric escapes

plain : (b : ℕ) (more : List ℕ) → (b ≡ 92 → ⊥) → has_numeric_escape (b ∷ more) ≡ has_numeric_escape more
unfolding has_numeric_escape when◌then◌else◌
plain b [] h = refl
plain b (c ∷ more) h = rw (ne_eqb b 92 h)

pair : (b c : ℕ) (more : List ℕ) → b ≡ 92 → has_numeric_escape (b ∷ c ∷ more) ≡ (is_numeric_escape c || has_numeric_escape more)
unfolding has_numeric_escape when◌then◌else◌
pair b c more e = rw (eq-eqb b 92 e)

last : (b : ℕ) → has_numeric_escape (b ∷ []) ≡ false
unfolding has_numeric_escape
last b = refl

module _ (body : List ℕ) where
  abbrev pub on : ℕ → Bool
  on p = has_numeric_escape (drop p body)

  pub at_end : (p : ℕ) → length body ≤ p → false ≡ on p
  unfolding has_numeric_escape
  at_end p h = rw (drop_of_length-le body {i = p} h)

  pub passes_byte : (p : ℕ) → p < length body → (byte_at body p ≡ 92 → ⊥) → on (p + 1) ≡ on p
  passes_byte p h e = sym (rw (drop-cons body p 0 h, add-one p) (plain _ _ e))

  pub passes_plain : (p q : ℕ) → p ≤ q → q ≤ length body → ((k : ℕ) → p ≤ k → k < q → byte_at body k ≡ 92 → ⊥) → on q ≡ on p
  passes_plain p q = passes_others 92 body on passes_byte p q

  module _ (p : ℕ) (h : p < length body) where
    pub last_byte : length body ≤ p + 1 → false ≡ on p
    last_byte l =
        let s : suc p ≡ p + 1 = omega arith in
        sym (rw (drop-cons body p 0 h, s, drop_of_length-le body {i = p + 1} l) (last _))

    module _ (e : byte_at body p ≡ 92) (l : p + 1 < length body) where
      both : on p ≡ (is_numeric_escape (byte_at body (p + 1)) || on (p + 2))
      both =
          let s : suc p ≡ p + 1 = omega arith in
          let t : suc (p + 1) ≡ p + 2 = omega arith in
          rw (drop-cons body p 0 h, s, drop-cons body (p + 1) 0 l, t) (pair _ _ _ e)

      pub numeric : is_numeric_escape (byte_at body (p + 1)) ≡ true → true ≡ on p
      numeric n = sym (both ∙ ap (λ t. t || on (p + 2)) n)

      pub passes_escape : is_numeric_escape (byte_at body (p + 1)) ≡ false → on (p + 2) ≡ on p
      passes_escape n = sym (both ∙ ap (λ t. t || on (p + 2)) n)

-- ---- Backslashes

module _ (body : List ℕ) where
  -- whether one stands from a place on
  abbrev pub left : ℕ → Bool
  left p = among 92 (drop p body)

  pub none_left : (p : ℕ) → length body ≤ p → left p ≡ false
  unfolding among
  none_left p h = rw (drop_of_length-le body {i = p} h)

  module _ (p : ℕ) (h : p < length body) where
    from_here : left p ≡ (eqb 92 (byte_at body p) || left (p + 1))
    unfolding among
    from_here = rw (drop-cons body p 0 h, add-one p)

    pub one_here : byte_at body p ≡ 92 → left p ≡ true
    one_here e = from_here ∙ ap (λ t. t || left (p + 1)) (eq-eqb 92 (byte_at body p) (sym e))

    pub not_here : (byte_at body p ≡ 92 → ⊥) → left (p + 1) ≡ left p
    not_here n = sym (from_here ∙ ap (λ t. t || left (p + 1)) (ne_eqb 92 (byte_at body p) (λ e. n (sym e))))

  pub none_between : (p q : ℕ) → p ≤ q → q ≤ length body → ((k : ℕ) → p ≤ k → k < q → byte_at body k ≡ 92 → ⊥) → left q ≡ left p
  none_between p q = passes_others 92 body left not_here p q

  -- one was met, or stands from a place on, exactly where the body has one
  abbrev pub MetOrLeft : Bool → ℕ → Type 0
  MetOrLeft met p = (met || left p) ≡ among 92 body

  pub passed_over : (met : Bool) (p q : ℕ) → left q ≡ left p → MetOrLeft met p → MetOrLeft met q
  passed_over met p q e m = ap (λ t. met || t) e ∙ m

  pub met_here : (met : Bool) (p : ℕ) → p < length body → byte_at body p ≡ 92 → MetOrLeft met p → true ≡ among 92 body
  met_here true p h e m = m
  met_here false p h e m = sym (one_here p h e) ∙ m

  pub all_met : (met : Bool) (p : ℕ) → length body ≤ p → MetOrLeft met p → met ≡ among 92 body
  all_met true p h m = m
  all_met false p h m = sym (none_left p h) ∙ m

-- ---- Spans

-- an end that stays at the largest `usize` gives the same span
pub same_span : (start end : ℕ) → span_of start (min end 0xFFFF_FFFF_FFFF_FFFF) ≡ span_of start end
unfolding span_of
same_span start end =
    let e : min (min end 0xFFFF_FFFF_FFFF_FFFF) 0xFFFF_FFFF ≡ min end 0xFFFF_FFFF = omega arith in
    ap (λ (x : ℕ). record { start = min start 0xFFFF_FFFF; end = x }) e

-- a span that is moved by the literal's start + 1, each sum staying at the largest `u32`
moved : (a b : ℕ) → min (min a 0xFFFF_FFFF + min b 0xFFFF_FFFF) 0xFFFF_FFFF ≡ min (b + a) 0xFFFF_FFFF
moved a b = omega arith

pub moved_span : (start from width : ℕ)
    → shifted_by (span_of from (from + width)) (min (start + 1) u32_max) ≡ span_of (start + 1 + from) (start + 1 + from + width)
unfolding span_of shifted_by
moved_span start from width =
    let e : start + 1 + (from + width) ≡ start + 1 + from + width = omega arith in
    ap₂ (λ (x y : ℕ). record { start = x; end = y }) (moved from (start + 1))
    (moved (from + width) (start + 1) ∙ ap (λ (n : ℕ). min n 0xFFFF_FFFF) e)

-- ---- Refusals have numbers

pub refusal_number : (fault : PatternError) → (refusal fault).number ≡ 0 → ⊥
refusal_number (error.TruncatedSpecifier o) e = omega arith
refusal_number (error.UnknownSpecifier o c) e = omega arith
refusal_number (error.BadFlag o c) e = omega arith
refusal_number (error.BadWidth o) e = omega arith
refusal_number (error.BadPrecision o) e = omega arith
refusal_number (error.BadModifier o m c) e = omega arith
refusal_number (error.LongSpecifier o) e = omega arith
refusal_number (error.UnterminatedSet o) e = omega arith
refusal_number (error.EmptySet o) e = omega arith
refusal_number (error.BadEscape o c) e = omega arith
refusal_number (error.UnmatchedCapture o) e = omega arith
refusal_number (error.TooManyCaptures o) e = omega arith
refusal_number (error.BadBackReference o) e = omega arith
refusal_number (error.InvalidPackOption o c) e = omega arith
refusal_number (error.TruncatedPackSize o) e = omega arith
refusal_number (error.PackSizeOutOfLimits o) e = omega arith
refusal_number (error.BadPackAlignment o) e = omega arith
refusal_number (error.VariableLengthPackOption o c) e = omega arith
refusal_number (error.LonePercent o) e = omega arith
refusal_number (error.BadReplacementEscape o) e = omega arith
refusal_number (error.CaptureIndexOutOfRange o) e = omega arith
refusal_number (error.BadDateSpecifier o) e = omega arith
refusal_number (error.ReversedRange o) e = omega arith

pub text_number : (e : TextError) → (of_text e).number ≡ 0 → ⊥
text_number UnknownVersion e = omega arith
text_number (NotUtf8 place) e = omega arith

-- ---- The body

module _ (start : ℕ) (body : List ℕ) (a : Answer) where
  pub span_accepted : a.number ≡ 0 → unspanned a ≡ with_span start body a
  unfolding with_span
  span_accepted z = sym (if_true _ _ _ (eq-eqb a.number 0 z))

  pub span_refused : (a.number ≡ 0 → ⊥) → (span : Span) → span ≡ span_at start body a.offset → spanned_answer a span ≡ with_span start body a
  unfolding with_span
  span_refused n span s = ap (spanned_answer a) s ∙ sym (if_false _ _ _ (ne_eqb a.number 0 n))

-- a check that tests no ranges is the same with a backslash in the body
pub same_check : (check : Check) (body : List ℕ) → without_ranges check ≡ check → literal_check check body ≡ check
unfolding literal_check
same_check check body e = by_test (λ (c : Check). c ≡ check) _ _ _ (λ _. e) (λ _. refl)

module _ (check : Check) (rules : Rules) (start : ℕ) (body : List ℕ) where
  pub body_skipped : has_numeric_escape body ≡ true → skipped_answer ≡ check_body check rules start body
  unfolding check_body
  body_skipped e = sym (if_true _ _ _ e)

  module _ (e : has_numeric_escape body ≡ false) where
    walked : (backslash : Bool) → among 92 body ≡ backslash
        → with_span start body (walk_of (when backslash then without_ranges check else check) rules body) ≡ check_body check rules start body
    unfolding check_body literal_check
    walked backslash b =
        ap (λ t. with_span start body (walk_of (when t then without_ranges check else check) rules body)) (sym b) ∙ sym (if_false _ _ _ e)

    pub body_bare : among 92 body ≡ false → with_span start body (walk_of check rules body) ≡ check_body check rules start body
    unfolding when◌then◌else◌
    body_bare b = walked false b

    pub body_escaped : among 92 body ≡ true → with_span start body (walk_of (without_ranges check) rules body) ≡ check_body check rules start body
    unfolding when◌then◌else◌
    body_escaped b = walked true b

-- ---- The literal

-- where the body of a short string stands
short_places : (raw : List ℕ) (a b : ℕ) → Some (a, b) ≡ short_string_body raw → (is_short raw ≡ true) × (a ≡ 1) × (b ≡ length raw - 1)
short_places raw a b e = go (is_short raw) refl
  where
    go : (t : Bool) → is_short raw ≡ t → (is_short raw ≡ true) × (a ≡ 1) × (b ≡ length raw - 1)
    go true s =
        let f : ◌≡◌ {A = Option (ℕ × ℕ)} (Some (a, b)) (Some (1, length raw - 1)) = e ∙ (unfold short_string_body in if_true _ _ _ s) in
        let q : ◌≡◌ {A = ℕ × ℕ} (a, b) (1, length raw - 1) = cc in
        (s, ap (λ x. x.0) q, ap (λ x. x.1) q)
    go false s =
        let f : ◌≡◌ {A = Option (ℕ × ℕ)} (Some (a, b)) None = e ∙ (unfold short_string_body in if_false _ _ _ s) in
        let z : ◌≡◌ {A = ℕ} 0 1 = cc in
        absurd (omega arith)

pub places_in : (raw : List ℕ) (a b : ℕ) → Some (a, b) ≡ short_string_body raw → (a ≤ b) × (b ≤ length raw)
places_in raw a b e =
    let s = short_places raw a b e in
    let two = both_quotes raw s.0 in
    (omega (arith, s.1, s.2, two), omega (arith, s.2))

no_places : (raw : List ℕ) → None ≡ short_string_body raw → is_short raw ≡ false
no_places raw e = go (is_short raw) refl
  where
    go : (t : Bool) → is_short raw ≡ t → is_short raw ≡ false
    go true s =
        let f : ◌≡◌ {A = Option (ℕ × ℕ)} None (Some (1, length raw - 1)) = e ∙ (unfold short_string_body in if_true _ _ _ s) in
        let z : ◌≡◌ {A = ℕ} 0 1 = cc in
        absurd (omega arith)
    go false s = s

module _ (check : Check) (start : ℕ) (text : List ℕ) where
  module _ (rules : Rules) where
    pub short : (a b : ℕ) → Some (a, b) ≡ short_string_body text → check_body check rules start (part text a b) ≡ check_short check rules start text
    unfolding check_short
    short a b e =
        let s = short_places text a b e in
        ap₂ (λ (x y : ℕ). check_body check rules start (part text x y)) s.1 s.2 ∙ sym (if_true _ _ _ s.0)

    pub no_short : None ≡ short_string_body text → skipped_answer ≡ check_short check rules start text
    unfolding check_short
    no_short e = sym (if_false _ _ _ (no_places text e))

  -- by what comes before every check
  module _ (version : ℕ) (a : Answer) (t : a ≡ check_text version text (accepted 0)) where
    pub text_passes : a.number ≡ 0 → check_short check (rules_of version) start text ≡ check_named_literal (Some check) version start text
    unfolding check_named_literal
    text_passes z = sym (if_true _ _ _ (eq-eqb _ 0 (ap (λ x. x.number) (sym t) ∙ z)))

    pub text_refused : (a.number ≡ 0 → ⊥) → unspanned a ≡ check_named_literal (Some check) version start text
    unfolding check_named_literal
    text_refused n = ap unspanned t ∙ sym (if_false _ _ _ (ne_eqb _ 0 (λ z. n (ap (λ x. x.number) t ∙ z))))

-- by what is read of the text before its check
module _ (check : Check) (version start : ℕ) (text : List ℕ) where
  pub named_rules : (rules : Rules) → read_text version text ≡ Ok rules
      → check_named_literal (Some check) version start text ≡ check_short check rules start text
  named_rules rules read =
      sym (text_passes check start text version (accepted 0) (sym (by_walk version text (accepted 0) rules read)) refl)
      ∙ ap (λ (r : Rules). check_short check r start text) (by_rules version text rules read)

  pub named_error : (e : TextError) → read_text version text ≡ Err e
      → check_named_literal (Some check) version start text ≡ unspanned (of_text e)
  named_error e read = sym (text_refused check start text version (of_text e) (by_error version text e read (accepted 0)) (text_number e))

pub ruleset named = (named_rules, named_error)

-- by the check that is named, or none
pub by_kind : (kind version : ℕ) (captures : Option ℕ) (start : ℕ) (text : List ℕ) (named : Option Check) → named ≡ check_of kind captures
    → check_named_literal named version start text ≡ check_literal kind version captures start text
unfolding check_literal
by_kind kind version captures start text named e = ap (λ n. check_named_literal n version start text) e
