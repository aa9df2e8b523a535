-- Laws of string literals: a law for each way that the code reads a literal's text, an escape or a piece.
-- Assumes nothing.
use Rattle.std.specs.Prelude.{Option, Some}
use Prim.Native.Nat.{ℕ, ◌+◌, ◌*◌, ◌-◌, ◌≤◌, ◌<◌, min}
use native.Mathlib.Omega.{arith}
use mathlib.Core.Path.{◌≡◌, refl, sym, ap, ap₂, ◌∙◌}
use mathlib.Core.Bool.{Bool, true, false, not, ◌&&◌, ◌||◌, true≢false}
use mathlib.Core.List.{List, [], ◌∷◌}
use lib.ListN.{length, take, drop, length-drop, get_or-eq_default}
use lib.Seq.{take_all}
use lib.Dec.{eqb, leb}
use borrow.Author.Tests.{lt-ltb, le-ltb, le-leb, lt-leb, eq-eqb, ne_eqb, leb-true, eqb-false, not-true}
use mathlib.Core.Logic.{inl, ⊎_elim}
use Rattle.luck_text.specs.Bytes.{when◌then◌else◌, byte_at, among, part, is_digit, is_xdigit, run, digit_value, numeral_from, numeral}
use Rattle.luck_utf8.specs.Utf8.{last_code, is_char, utf8_bytes}
use Rattle.luck_token.specs.Whitespace.{line_break, strip_line_break}
use Rattle.luck_text.specs.Scan.{most}
use Rattle.luck_token.specs.Literal.{
  is_short,
  equals,
  bracket_at,
  bracket_width,
  escape_kind,
  hex_escape,
  decimal_escape,
  allows_digits,
  allows_value,
  allows_code_point,
  unicode_escape,
  escape_piece,
  escape_piece_at,
  long_piece,
  short_piece,
  piece_at,
  LiteralPiece,
  piece,
  malformed,
}
use Rattle.luck_token.specs.Inner.{IsPiece, plain}
use Rattle.luck_token.specs.declared.version.Rules.{Rules}
use Rattle.luck_token.specs.declared.string.Piece.{Piece as Found}
use Rattle.luck_token.specs.declared.string.Escape.{Escape}
use Rattle.luck_token.specs.declared.string.Escape.TheVariants.{Decimal}
use Rattle.luck_text.proofs.Cases.{by_test, if_true, if_false, and_left, and_right, both_true, first_false, second_false, order, same}
use Rattle.luck_text.proofs.Bytes.{within, above, run_first, digit_more, digit_end, hex_value}
use Rattle.luck_utf8.proofs.CodePoints.{few_bytes, one_byte}
use Rattle.luck_token.proofs.Breaks.{no_break, lone_lf}

-- ---- The text

-- a text without the line break that it starts with, as a part of it
pub stripped : (lfcr : Bool) (text : List ℕ) (width : ℕ) → width ≡ line_break lfcr text 0 → take (length text - width) (drop width text) ≡ strip_line_break lfcr text
unfolding strip_line_break
stripped lfcr text width e = take_all (length text - width) (drop width text) (omega (arith, length-drop width text)) ∙ ap (λ (w : ℕ). drop w text) e

-- a quoted text has both of its quotes
pub both_quotes : (raw : List ℕ) → is_short raw ≡ true → 2 ≤ length raw
unfolding is_short
both_quotes raw e =
    let first = byte_at raw 0 in
    let quote = eqb first 34 || eqb first 39 in
    leb-true 2 (length raw) (and_left (leb 2 (length raw)) quote (and_left (leb 2 (length raw) && quote) (eqb (byte_at raw (length raw - 1)) first) e))

-- ---- Escapes

module _ (rules : Rules) (b : ℕ) where
  pub decimal_escape_lem : 48 ≤ b → b ≤ 57 → Some Decimal ≡ escape_kind rules b
  unfolding escape_kind among when◌then◌else◌ is_digit
  decimal_escape_lem l h =
      rw (
        ne_eqb b 97 (λ e. absurd (omega arith)),
        ne_eqb b 98 (λ e. absurd (omega arith)),
        ne_eqb b 102 (λ e. absurd (omega arith)),
        ne_eqb b 110 (λ e. absurd (omega arith)),
        ne_eqb b 114 (λ e. absurd (omega arith)),
        ne_eqb b 116 (λ e. absurd (omega arith)),
        ne_eqb b 118 (λ e. absurd (omega arith)),
        ne_eqb b 92 (λ e. absurd (omega arith)),
        ne_eqb b 34 (λ e. absurd (omega arith)),
        ne_eqb b 39 (λ e. absurd (omega arith)),
        ne_eqb b 10 (λ e. absurd (omega arith)),
        ne_eqb b 13 (λ e. absurd (omega arith)),
        within 48 57 b l h,
      )

-- ---- A code point that a version allows

module _ (rules : Rules) (value : ℕ) where
  pub extended : rules.extended_unicode_escape ≡ true → leb value last_code ≡ allows_value rules value
  unfolding allows_value
  extended e = sym (if_true _ _ _ e)

  pub characters : rules.extended_unicode_escape ≡ false → is_char value ≡ allows_value rules value
  unfolding allows_value
  characters e = sym (if_false _ _ _ e)

  -- a value above every limit
  no_value : last_code < value → allows_value rules value ≡ false
  unfolding allows_value is_char
  no_value h =
      by_test (λ t. t ≡ false) rules.extended_unicode_escape _ _ (λ _. lt-leb value last_code h)
      (λ _. rw (le-ltb value 0xD800 (omega arith), above 0xE000 0x10_FFFF value (omega arith)))

  none_allowed : (count : ℕ) → last_code < value → allows_code_point rules count value ≡ false
  unfolding allows_code_point
  none_allowed count h = second_false (allows_digits rules count) (allows_value rules value) (no_value h)

  module _ (count : ℕ) where
    module _ (e : allows_code_point rules count value ≡ true) where
      pub allowed_small : value ≤ last_code
      allowed_small = ⊎_elim (λ l. absurd (true≢false (sym e ∙ none_allowed count l))) (λ g. g) (order last_code value)

      pub allowed_some : 1 ≤ count
      unfolding allows_code_point allows_digits
      allowed_some =
          leb-true 1 count (and_left (leb 1 count) (not rules.unicode_escape_digit_limit || leb count 16) (and_left (allows_digits rules count) (allows_value rules value) e))

-- a number that stays at the largest is allowed where the exact one is
pub capped : (rules : Rules) (count value : ℕ) → allows_code_point rules count (min value most) ≡ allows_code_point rules count value
capped rules count value =
    ⊎_elim (λ l. let e : min value most ≡ value = omega arith in ap (allows_code_point rules count) e)
    (λ g. none_allowed rules (min value most) count (omega arith) ∙ sym (none_allowed rules value count (omega arith))) (order value most)

-- ---- Pieces

-- a piece of one byte, of a width that is known
pub newline : {v w : ℕ} → v ≡ w → piece (10 ∷ []) v ≡ piece (10 ∷ []) w
newline e = ap (piece (10 ∷ [])) e

module _ (lfcr : Bool) (body : List ℕ) (p : ℕ) where
  pub long_byte : line_break lfcr body p ≡ 0 → piece (byte_at body p ∷ []) 1 ≡ long_piece lfcr body p
  unfolding long_piece when◌then◌else◌
  long_byte e = rw e

  pub long_break : (width : ℕ) → width ≡ line_break lfcr body p → (width ≡ 0 → ⊥) → piece (10 ∷ []) width ≡ long_piece lfcr body p
  unfolding long_piece when◌then◌else◌
  long_break width e h = rw (← e, ne_eqb width 0 h)

-- `\x`
module _ (body : List ℕ) (p : ℕ) where
  -- there is no digit behind the text
  no_digit : (q : ℕ) → length body ≤ q → is_xdigit (byte_at body q) ≡ false
  unfolding is_xdigit is_digit
  no_digit q g = ap is_xdigit (get_or-eq_default body 0 {n = q} g)

  two_digits : p + 4 ≤ length body → numeral 16 (part body (p + 2) (p + 4)) ≡ digit_value (byte_at body (p + 2)) * 16 + digit_value (byte_at body (p + 3))
  unfolding numeral
  two_digits h =
      let e : p + 2 + 1 ≡ p + 3 = omega arith in
      let f : p + 3 + 1 ≡ p + 4 = omega arith in
      let z : 0 * 16 + digit_value (byte_at body (p + 2)) ≡ digit_value (byte_at body (p + 2)) = omega arith in
      digit_more 16 body (p + 4) 0 (p + 2) (omega arith) (omega arith)
      ∙ ap₂ (λ (x q : ℕ). numeral_from 16 x (part body q (p + 4))) z e
      ∙ digit_more 16 body (p + 4) (digit_value (byte_at body (p + 2))) (p + 3) (omega arith) (omega arith)
      ∙ digit_end 16 body (p + 4) _ (p + 3 + 1) (inl (omega arith))

  pub hex_first : is_xdigit (byte_at body (p + 2)) ≡ false → malformed ≡ hex_escape body p
  unfolding hex_escape
  hex_first e = sym (if_false _ _ _ (first_false _ _ e))

  pub hex_second : is_xdigit (byte_at body (p + 3)) ≡ false → malformed ≡ hex_escape body p
  unfolding hex_escape
  hex_second e = sym (if_false _ _ _ (second_false (is_xdigit (byte_at body (p + 2))) _ e))

  pub hex_cut : length body < p + 4 → malformed ≡ hex_escape body p
  hex_cut h = hex_second (no_digit (p + 3) (omega arith))

  pub hex_byte : p + 4 ≤ length body → is_xdigit (byte_at body (p + 2)) ≡ true → is_xdigit (byte_at body (p + 3)) ≡ true
      → piece ((digit_value (byte_at body (p + 2)) * 16 + digit_value (byte_at body (p + 3))) ∷ []) 4 ≡ hex_escape body p
  unfolding hex_escape
  hex_byte h a b = ap (λ (v : ℕ). piece (v ∷ []) 4) (sym (two_digits h)) ∙ sym (if_true _ _ _ (both_true _ _ a b))

-- `\ddd`
module _ (body : List ℕ) (p count value : ℕ) (n : count ≡ min 3 (run is_digit (drop (p + 1) body))) (v : value ≡ min (numeral 10 (part body (p + 1) (p + 1 + count))) most) where
  pub decimal_large : 255 < value → malformed ≡ decimal_escape body p
  unfolding decimal_escape
  decimal_large h = rw (← n) (sym (if_false _ _ _ (lt-leb (numeral 10 (part body (p + 1) (p + 1 + count))) 255 (omega arith))))

  pub decimal_byte : value ≤ 255 → piece (value ∷ []) (1 + count) ≡ decimal_escape body p
  unfolding decimal_escape
  decimal_byte h =
      let e : value ≡ numeral 10 (part body (p + 1) (p + 1 + count)) = omega arith in
      rw (← n) (ap (λ (x : ℕ). piece (x ∷ []) (1 + count)) e ∙ sym (if_true _ _ _ (le-leb (numeral 10 (part body (p + 1) (p + 1 + count))) 255 (omega arith))))

-- `\u{XXX}`
module _ (rules : Rules) (body : List ℕ) (p : ℕ) where
  pub no_open : (byte_at body (p + 2) ≡ 123 → ⊥) → malformed ≡ unicode_escape rules body p
  unfolding unicode_escape when◌then◌else◌
  no_open h = rw (ne_eqb (byte_at body (p + 2)) 123 h)

  module _ (count : ℕ) (n : count ≡ run is_xdigit (drop (p + 3) body)) where
    unfoldable pub exact : ℕ
    exact = numeral 16 (part body (p + 3) (p + 3 + count))

    braces : Bool
    braces = eqb (byte_at body (p + 2)) 123 && eqb (byte_at body (p + 3 + count)) 125

    by_count : unicode_escape rules body p ≡ (when braces && allows_code_point rules count exact then piece (utf8_bytes exact) (count + 4) else malformed)
    unfolding unicode_escape exact braces
    by_count = rw (← n)

    pub no_close : (byte_at body (p + 3 + count) ≡ 125 → ⊥) → malformed ≡ unicode_escape rules body p
    unfolding braces
    no_close h =
        sym (by_count ∙ if_false _ _ _ (first_false braces (allows_code_point rules count exact)
        (second_false (eqb (byte_at body (p + 2)) 123) (eqb (byte_at body (p + 3 + count)) 125) (ne_eqb (byte_at body (p + 3 + count)) 125 h))))

    module _ (value : ℕ) (v : value ≡ min exact most) where
      same_answer : allows_code_point rules count exact ≡ allows_code_point rules count value
      same_answer = sym (ap (allows_code_point rules count) v ∙ capped rules count exact)

      -- it has no more bytes than the escape takes: one digit is a code point of one byte, and with two there are six bytes
      pub in_width : 1 ≤ count → value ≤ last_code → length (utf8_bytes value) ≤ count + 4
      unfolding exact numeral
      in_width there small =
          ⊎_elim (λ one. omega (arith, ap length (one_byte value (omega (arith, one_digit one))))) (λ more. omega (arith, few_bytes value)) (order count 2)
        where
          one_digit : count < 2 → value < 16
          one_digit h =
              let first = run_first is_xdigit body (p + 3) (omega arith) in
              let d = digit_value (byte_at body (p + 3)) in
              let spelled : exact ≡ 0 * 16 + d = digit_more 16 body (p + 3 + count) 0 (p + 3) (omega arith) first.0 ∙ digit_end 16 body (p + 3 + count) (0 * 16 + d) (p + 3 + 1) (inl (omega arith)) in
              omega (arith, hex_value (byte_at body (p + 3)) first.1)

      pub no_code_point : allows_code_point rules count value ≡ false → malformed ≡ unicode_escape rules body p
      no_code_point h = sym (by_count ∙ if_false _ _ _ (second_false braces (allows_code_point rules count exact) (same_answer ∙ h)))

      pub code_point : byte_at body (p + 2) ≡ 123 → byte_at body (p + 3 + count) ≡ 125 → allows_code_point rules count value ≡ true
          → piece (utf8_bytes value) (count + 4) ≡ unicode_escape rules body p
      unfolding braces
      code_point o c h =
          let small = allowed_small rules value count h in
          let e : value ≡ exact = omega arith in
          ap (λ (x : ℕ). piece (utf8_bytes x) (count + 4)) e
          ∙ sym (by_count ∙ if_true _ _ _ (both_true braces (allows_code_point rules count exact)
          (both_true (eqb (byte_at body (p + 2)) 123) (eqb (byte_at body (p + 3 + count)) 125) (eq-eqb _ _ o) (eq-eqb _ _ c)) (same_answer ∙ h)))

-- the escape that the byte after a backslash begins
module _ (rules : Rules) (body : List ℕ) (p : ℕ) where
  pub escape_is : p + 1 < length body → (e : Option Escape) → e ≡ escape_kind rules (byte_at body (p + 1)) → escape_piece rules e body p ≡ escape_piece_at rules body p
  unfolding escape_piece_at
  escape_is h e q = ap (λ (k : Option Escape). escape_piece rules k body p) q ∙ sym (if_true _ _ _ (lt-ltb (p + 1) (length body) h))

  pub escape_cut : length body ≤ p + 1 → malformed ≡ escape_piece_at rules body p
  unfolding escape_piece_at
  escape_cut h = sym (if_false _ _ _ (le-ltb (p + 1) (length body) h))

  pub short_escape : byte_at body p ≡ 92 → escape_piece_at rules body p ≡ short_piece rules body p
  unfolding short_piece
  short_escape e = sym (if_true _ _ _ (eq-eqb (byte_at body p) 92 e))

  pub short_byte : (byte_at body p ≡ 92 → ⊥) → piece (byte_at body p ∷ []) 1 ≡ short_piece rules body p
  unfolding short_piece
  short_byte e = sym (if_false _ _ _ (ne_eqb (byte_at body p) 92 e))

  pub piece_long : (long : Bool) → long ≡ true → long_piece rules.lfcr_line_break body p ≡ piece_at long rules body p
  unfolding piece_at
  piece_long long e = rw e

  pub piece_short : (long : Bool) → long ≡ false → short_piece rules body p ≡ piece_at long rules body p
  unfolding piece_at
  piece_short long e = rw e

-- ---- Plain bytes

module _ (body : List ℕ) (p : ℕ) where
  pub plain_lf : byte_at body p ≡ 10 → not (eqb (byte_at body (p + 1)) 13) ≡ plain true body p
  plain_lf e = rw e

  pub plain_other : (byte_at body p ≡ 10 → ⊥) → not (eqb (byte_at body p) 13) ≡ plain true body p
  plain_other h = rw (ne_eqb (byte_at body p) 10 h) (alike (not (eqb (byte_at body p) 13)))
    where
      alike : (t : Bool) → t ≡ (t && true)
      alike true = refl
      alike false = refl

  -- no CR here nor behind
  pub plain_long : (byte_at body p ≡ 13 → ⊥) → (byte_at body p ≡ 10 → byte_at body (p + 1) ≡ 13 → ⊥) → plain true body p ≡ true
  plain_long h g =
      ⊎_elim (λ lf. sym (plain_lf lf) ∙ ap not (ne_eqb (byte_at body (p + 1)) 13 (g lf))) (λ no_lf. sym (plain_other no_lf) ∙ ap not (ne_eqb (byte_at body p) 13 h))
      (same (byte_at body p) 10)

  pub plain_short : (byte_at body p ≡ 92 → ⊥) → plain false body p ≡ true
  plain_short h = ap not (ne_eqb (byte_at body p) 92 h)

-- a plain byte is a piece by itself; in a long string it begins no break, or is a lone LF, which stands for a newline
pub plain_is : (long : Bool) (rules : Rules) (body : List ℕ) (p : ℕ) → plain long body p ≡ true → piece (byte_at body p ∷ []) 1 ≡ piece_at long rules body p
plain_is true rules body p e =
    let lfcr = rules.lfcr_line_break in
    let cr = eqb (byte_at body p) 13 in
    let pair = eqb (byte_at body p) 10 && eqb (byte_at body (p + 1)) 13 in
    let no_cr = eqb-false (byte_at body p) 13 (not-true cr (and_left (not cr) (not pair) e)) in
    let no_pair = not-true pair (and_right (not cr) (not pair) e) in
    ⊎_elim (λ lf. ap (λ (b : ℕ). piece (b ∷ []) 1) lf ∙ long_break lfcr body p 1 (lone_lf lfcr body p lf (alone lf no_pair)) (λ z. absurd (omega arith)))
    (λ no_lf. long_byte lfcr body p (sym (no_break lfcr body p no_cr no_lf))) (same (byte_at body p) 10)
    ∙ piece_long rules body p true refl
  where
    alone : byte_at body p ≡ 10 → (eqb (byte_at body p) 10 && eqb (byte_at body (p + 1)) 13) ≡ false → byte_at body (p + 1) ≡ 13 → ⊥
    alone lf f e = true≢false (sym (both_true (eqb (byte_at body p) 10) (eqb (byte_at body (p + 1)) 13) (eq-eqb _ _ lf) (eq-eqb _ _ e)) ∙ f)
plain_is false rules body p e = short_byte rules body p (eqb-false (byte_at body p) 92 (not-true _ e)) ∙ piece_short rules body p false refl

-- a piece that was found is the one that is wanted
pub as_piece : {body : List ℕ} {p : ℕ} {found : Option Found} (v w : LiteralPiece) → v ≡ w → IsPiece v body p found → IsPiece w body p found
as_piece v w e t = record { is = t.is ∙ e; inside = t.inside }

-- ---- Long brackets

module _ (raw : List ℕ) (level : ℕ) (e : level ≡ equals raw 1) where
  opens : Bool
  opens = bracket_at 91 level raw 0

  closes : Bool
  closes = bracket_at 93 level raw (length raw - (level + 2))

  by_level : bracket_width raw ≡ (when leb (level + 2 + (level + 2)) (length raw) && opens && closes then level + 2 else 0)
  unfolding bracket_width opens closes
  by_level = rw (← e)

  pub no_room : length raw < level + 2 + (level + 2) → 0 ≡ bracket_width raw
  no_room h =
      sym (by_level ∙ if_false _ _ _ (first_false (leb (level + 2 + (level + 2)) (length raw) && opens) closes
      (first_false (leb (level + 2 + (level + 2)) (length raw)) opens (lt-leb _ _ h))))

  pub no_opening : bracket_at 91 level raw 0 ≡ false → 0 ≡ bracket_width raw
  unfolding opens
  no_opening h =
      sym (by_level ∙ if_false _ _ _ (first_false (leb (level + 2 + (level + 2)) (length raw) && opens) closes
      (second_false (leb (level + 2 + (level + 2)) (length raw)) opens h)))

  pub no_closing : bracket_at 93 level raw (length raw - (level + 2)) ≡ false → 0 ≡ bracket_width raw
  unfolding closes
  no_closing h = sym (by_level ∙ if_false _ _ _ (second_false (leb (level + 2 + (level + 2)) (length raw) && opens) closes h))

  pub brackets : level + 2 + (level + 2) ≤ length raw → bracket_at 91 level raw 0 ≡ true → bracket_at 93 level raw (length raw - (level + 2)) ≡ true
      → level + 2 ≡ bracket_width raw
  unfolding opens closes
  brackets h o c =
      sym (by_level ∙ if_true _ _ _ (both_true (leb (level + 2 + (level + 2)) (length raw) && opens) closes
      (both_true (leb (level + 2 + (level + 2)) (length raw)) opens (le-leb _ _ h) o) c))

-- a quoted text has no opening bracket
pub quoted : (raw : List ℕ) → is_short raw ≡ true → 0 ≡ bracket_width raw
unfolding is_short bracket_at
quoted raw e =
    let first = byte_at raw 0 in
    let quote = eqb first 34 || eqb first 39 in
    let is_quote : quote ≡ true = and_right (leb 2 (length raw)) quote (and_left (leb 2 (length raw) && quote) (eqb (byte_at raw (length raw - 1)) first) e) in
    let level = equals raw 1 in
    let here = eqb first 91 in
    let count = eqb (equals raw (0 + 1)) level in
    no_opening raw level refl
    (first_false (here && count) (eqb (byte_at raw (0 + 1 + level)) 91)
    (first_false here count (ne_eqb first 91 (λ b. true≢false (sym is_quote ∙ ap (λ (x : ℕ). eqb x 34 || eqb x 39) b)))))
