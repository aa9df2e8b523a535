-- What `\u{XXX}` with values up to 7FFFFFFF leaves as it is: every other piece, the value of a text without `\u`, and every value that was one with
-- characters only.
-- Assumes nothing.
use Rattle.std.specs.Prelude.{Option, None, Some}
use Prim.Native.Nat.{ℕ, zero, suc, ◌+◌, ◌-◌, ◌<◌}
use native.Mathlib.Omega.{arith}
use mathlib.Core.Path.{◌≡◌, refl, sym, ap, subst, fun_ext, ◌∙◌}
use mathlib.Core.Logic.{⊎_elim}
use mathlib.Core.Bool.{Bool, true, false, ◌&&◌, true≢false}
use mathlib.Core.List.{List, [], ◌++◌}
use lib.ListN.{length, drop, length-take}
use lib.Seq.{get_or-take, get_or-drop}
use lib.Dec.{eqb, ltb}
use borrow.Author.Tests.{le-leb, ne_eqb, eqb-true}
use Rattle.luck_text.specs.Bytes.{when◌then◌else◌, byte_at, part, among, is_xdigit, run, numeral}
use Rattle.luck_text.specs.Walk.{Turn, stop, goes, walk, walk_from}
use Rattle.luck_text.proofs.Cases.{by_test, if_true, and_left, and_right, both_true, second_false, present, same}
use Rattle.luck_utf8.specs.Utf8.{last_code, is_char}
use Rattle.luck_utf8.proofs.CodePoints.{char_below}
use Rattle.luck_token.specs.Version.{is_version, extended_unicode_escape, versions, has, rules_of}
use Rattle.luck_token.specs.Literal.{
  is_short,
  bracket_width,
  long_string_body,
  LiteralPiece,
  piece,
  malformed,
  other_escape,
  escape_kind,
  allows_digits,
  allows_value,
  allows_code_point,
  unicode_escape,
  escape_piece,
  escape_piece_at,
  short_piece,
  piece_at,
  piece_turn,
  whole_value,
  value_of,
  literal_value,
}
use Rattle.luck_token.specs.declared.version.Rules.{Rules}
use Rattle.luck_token.specs.declared.string.Escape.{Escape}
use Rattle.luck_token.specs.declared.string.Escape.TheVariants.{Simple, LineBreak, Hex, Whitespace, Decimal, Unicode, Itself}
use Rattle.luck_token.proofs.Literals.{short_escape, short_byte}
use Rattle.luck_token.proofs.Values.{item}

-- ---- Rules

-- rules with characters only in `\u{XXX}`
abbrev pub characters_only : Rules → Rules
characters_only rules =
    record {
      strict_escapes = rules.strict_escapes;
      hex_escape = rules.hex_escape;
      unicode_escape = rules.unicode_escape;
      lfcr_line_break = rules.lfcr_line_break;
      extended_unicode_escape = false;
      unicode_escape_digit_limit = rules.unicode_escape_digit_limit;
      hex_float_format = rules.hex_float_format;
      checked_format_modifiers = rules.checked_format_modifiers;
      star_format = rules.star_format;
      strict_gsub_replacement = rules.strict_gsub_replacement;
      date_format_options = rules.date_format_options;
    }

-- such are those of every version but 5.4 and 5.5
pub other_rules : (version : ℕ) → (version ≡ 4 → ⊥) → (version ≡ 5 → ⊥) → characters_only (rules_of version) ≡ rules_of version
unfolding rules_of has versions among
other_rules version f g =
    let e : has extended_unicode_escape version ≡ false = rw (ne_eqb version 4 f, ne_eqb version 5 g) (second_false (is_version version) false refl) in
    rw e

-- ---- Pieces

same_kind : (rules : Rules) (b : ℕ) → escape_kind (characters_only rules) b ≡ escape_kind rules b
unfolding escape_kind other_escape
same_kind rules b = refl

abbrev is_unicode : Option Escape → Bool
is_unicode (Some Simple) = false
is_unicode (Some LineBreak) = false
is_unicode (Some Hex) = false
is_unicode (Some Whitespace) = false
is_unicode (Some Decimal) = false
is_unicode (Some Unicode) = true
is_unicode (Some Itself) = false
is_unicode None = false

only_u : (rules : Rules) (b : ℕ) → is_unicode (escape_kind rules b) ≡ true → b ≡ 117
unfolding escape_kind other_escape
only_u rules b =
    by_test U _ _ _ no (λ _. by_test U _ _ _ no (λ _. by_test U _ _ _ no (λ _. by_test U _ _ _ no (λ _. by_test U _ _ _ no
    (λ _. by_test U _ _ _ (λ t _. eqb-true b 117 (and_left (eqb b 117) rules.unicode_escape t)) (λ _. by_test U _ _ _ no no))))))
  where
    U : Option Escape → Type 0
    U k = is_unicode k ≡ true → b ≡ 117

    no : {t u : Bool} → t ≡ u → false ≡ true → b ≡ 117
    no _ e = absurd (true≢false (sym e))

other_escape_lem : (rules : Rules) (k : Option Escape) (body : List ℕ) (p : ℕ) → is_unicode k ≡ false → escape_piece (characters_only rules) k body p ≡ escape_piece rules k body p
unfolding escape_piece
other_escape_lem rules (Some Simple) body p e = refl
other_escape_lem rules (Some LineBreak) body p e = refl
other_escape_lem rules (Some Hex) body p e = refl
other_escape_lem rules (Some Whitespace) body p e = refl
other_escape_lem rules (Some Decimal) body p e = refl
other_escape_lem rules (Some Unicode) body p e = absurd (true≢false e)
other_escape_lem rules (Some Itself) body p e = refl
other_escape_lem rules None body p e = refl

module _ (rules : Rules) (body : List ℕ) (p : ℕ) where
  no_unicode : (byte_at body (p + 1) ≡ 117 → ⊥) → is_unicode (escape_kind rules (byte_at body (p + 1))) ≡ false
  no_unicode h = go (is_unicode (escape_kind rules (byte_at body (p + 1)))) refl
    where
      go : (t : Bool) → is_unicode (escape_kind rules (byte_at body (p + 1))) ≡ t → t ≡ false
      go true e = absurd (h (only_u rules (byte_at body (p + 1)) e))
      go false e = refl

  other_escape_at : (byte_at body (p + 1) ≡ 117 → ⊥) → escape_piece_at (characters_only rules) body p ≡ escape_piece_at rules body p
  unfolding escape_piece_at
  other_escape_at h =
      let b = byte_at body (p + 1) in
      ap (λ (x : LiteralPiece). when ltb (p + 1) (length body) then x else malformed)
      (ap (λ (k : Option Escape). escape_piece (characters_only rules) k body p) (same_kind rules b) ∙ other_escape_lem rules (escape_kind rules b) body p (no_unicode h))

  other_short : (byte_at body p ≡ 92 → byte_at body (p + 1) ≡ 117 → ⊥) → short_piece (characters_only rules) body p ≡ short_piece rules body p
  other_short h =
      ⊎_elim (λ b. sym (short_escape (characters_only rules) body p b) ∙ other_escape_at (h b) ∙ short_escape rules body p b)
      (λ o. sym (short_byte (characters_only rules) body p o) ∙ short_byte rules body p o) (same (byte_at body p) 92)

  pub other_piece : (long : Bool) → (long ≡ false → byte_at body p ≡ 92 → byte_at body (p + 1) ≡ 117 → ⊥)
      → piece_at long (characters_only rules) body p ≡ piece_at long rules body p
  unfolding piece_at
  other_piece true h = refl
  other_piece false h = other_short (h refl)

-- ---- Values of texts without `\u`

-- a byte of a part, other than 0, is the text's
part_byte : (text : List ℕ) (from to q b : ℕ) → byte_at (part text from to) q ≡ b → 0 < b → byte_at text (from + q) ≡ b
part_byte text from to q b e h =
    let inside = present (part text from to) q (omega arith) in
    sym (get_or-take (to - from) (drop from text) q 0 (omega (arith, length-take (to - from) (drop from text))) ∙ get_or-drop from text q 0) ∙ e

module _ (rules : Rules) where
  other_value : (long : Bool) (body : List ℕ) → ((p : ℕ) → long ≡ false → byte_at body p ≡ 92 → byte_at body (p + 1) ≡ 117 → ⊥)
      → value_of long (characters_only rules) body ≡ value_of long rules body
  unfolding value_of
  other_value long body h =
      ap (λ item. walk_from item whole_value (length body) 0 [])
      (fun_ext (λ p. fun_ext (λ before. ap (piece_turn before) (other_piece rules body p long (h p)))))

  pub other_literal : (raw : List ℕ) → ((p : ℕ) → byte_at raw p ≡ 92 → byte_at raw (p + 1) ≡ 117 → ⊥) → literal_value (characters_only rules) raw ≡ literal_value rules raw
  unfolding literal_value
  other_literal raw h =
      let inner : (p : ℕ) → byte_at (part raw 1 (length raw - 1)) p ≡ 92 → byte_at (part raw 1 (length raw - 1)) (p + 1) ≡ 117 → ⊥ =
      λ p b u. let e : 1 + (p + 1) ≡ 1 + p + 1 = omega arith in
      h (1 + p) (part_byte raw 1 (length raw - 1) p 92 b (omega arith)) (ap (byte_at raw) (sym e) ∙ part_byte raw 1 (length raw - 1) (p + 1) 117 u (omega arith)) in
      rw (other_value true (long_string_body rules.lfcr_line_break raw) (λ p e. absurd (true≢false e)), other_value false (part raw 1 (length raw - 1)) (λ p _. inner p))

-- ---- Values with characters only

-- what is a piece with characters only is that piece
abbrev Stays : LiteralPiece → LiteralPiece → Type 0
Stays old new = (bytes : List ℕ) (width : ℕ) → old ≡ piece bytes width → new ≡ piece bytes width

stays_if : (t : Bool) (x y x' y' : LiteralPiece) → Stays x x' → Stays y y' → Stays (when t then x else y) (when t then x' else y')
unfolding when◌then◌else◌
stays_if true x y x' y' f g = f
stays_if false x y x' y' f g = g

module _ (rules : Rules) where
  more_allowed : (count c : ℕ) → allows_code_point (characters_only rules) count c ≡ true → allows_code_point rules count c ≡ true
  unfolding allows_code_point allows_digits allows_value when◌then◌else◌
  more_allowed count c e =
      let character = and_right (allows_digits rules count) (is_char c) e in
      both_true (allows_digits rules count) (allows_value rules c) (and_left (allows_digits rules count) (is_char c) e)
      (by_test (λ t. t ≡ true) rules.extended_unicode_escape _ _ (λ _. le-leb c last_code (omega (arith, char_below c character))) (λ _. character))

  module _ (body : List ℕ) (p : ℕ) where
    unicode_stays : Stays (unicode_escape (characters_only rules) body p) (unicode_escape rules body p)
    unfolding unicode_escape
    unicode_stays bytes width =
        let count = run is_xdigit (drop (p + 3) body) in
        let c = numeral 16 (part body (p + 3) (p + 3 + count)) in
        let braces = eqb (byte_at body (p + 2)) 123 && eqb (byte_at body (p + 3 + count)) 125 in
        let former = allows_code_point (characters_only rules) count c in
        by_test (λ (q : LiteralPiece). q ≡ piece bytes width → unicode_escape rules body p ≡ piece bytes width) (braces && former) _ _
        (λ t e. if_true _ _ _ (both_true braces (allows_code_point rules count c) (and_left braces former t) (more_allowed count c (and_right braces former t))) ∙ e)
        (λ _ e. let z : ◌≡◌ {A = ℕ} 0 1 = cc in absurd (omega arith))

    escape_stays : (k : Option Escape) → Stays (escape_piece (characters_only rules) k body p) (escape_piece rules k body p)
    unfolding escape_piece
    escape_stays (Some Simple) bytes width e = e
    escape_stays (Some LineBreak) bytes width e = e
    escape_stays (Some Hex) bytes width e = e
    escape_stays (Some Whitespace) bytes width e = e
    escape_stays (Some Decimal) bytes width e = e
    escape_stays (Some Unicode) bytes width e = unicode_stays bytes width e
    escape_stays (Some Itself) bytes width e = e
    escape_stays None bytes width e = e

    escape_at_stays : Stays (escape_piece_at (characters_only rules) body p) (escape_piece_at rules body p)
    unfolding escape_piece_at
    escape_at_stays =
        let b = byte_at body (p + 1) in
        stays_if (ltb (p + 1) (length body)) _ _ _ _ (rw (same_kind rules b) (escape_stays (escape_kind rules b))) (λ _ _ e. e)

    piece_stays : (long : Bool) → Stays (piece_at long (characters_only rules) body p) (piece_at long rules body p)
    unfolding piece_at short_piece
    piece_stays true = λ _ _ e. e
    piece_stays false = stays_if (eqb (byte_at body p) 92) _ _ _ _ escape_at_stays (λ _ _ e. e)

-- a walk that ends with a value ends with it too where every piece stays
module _ (old new : ℕ → List ℕ → Turn (List ℕ) (Option (List ℕ))) (v : List ℕ) where
  abbrev on : (ℕ → List ℕ → Turn (List ℕ) (Option (List ℕ))) → ℕ → ℕ → Turn (List ℕ) (Option (List ℕ)) → Option (List ℕ)
  on item n p t = elim t [ stop a ↦ a | goes width after ↦ walk item whole_value n (width - 1) (suc p) after ]

  turn_stays : (n p : ℕ) (before : List ℕ) (q r : LiteralPiece) → Stays q r
      → ((width : ℕ) (after : List ℕ) → walk old whole_value n (width - 1) (suc p) after ≡ Some v → walk new whole_value n (width - 1) (suc p) after ≡ Some v)
      → on old n p (piece_turn before q) ≡ Some v → on new n p (piece_turn before r) ≡ Some v
  unfolding piece_turn
  turn_stays n p before malformed r s rest e = let z : ◌≡◌ {A = ℕ} 0 1 = cc in absurd (omega arith)
  turn_stays n p before (piece bytes width) r s rest e =
      subst (λ (x : LiteralPiece). on new n p (piece_turn before x) ≡ Some v) (sym (s bytes width refl)) (rest width (before ++ bytes) e)

module _ (long : Bool) (rules : Rules) (body : List ℕ) where
  walk_stays : (n k p : ℕ) (before v : List ℕ) → walk (item long (characters_only rules) body) whole_value n k p before ≡ Some v
      → walk (item long rules body) whole_value n k p before ≡ Some v
  unfolding walk
  walk_stays zero k p before v e = e
  walk_stays (suc n) (suc k) p before v e = walk_stays n k (suc p) before v e
  walk_stays (suc n) zero p before v e =
      turn_stays (item long (characters_only rules) body) (item long rules body) v n p before (piece_at long (characters_only rules) body p) (piece_at long rules body p)
      (piece_stays rules body p long) (λ width after. walk_stays n (width - 1) (suc p) after v) e

  value_stays : (v : List ℕ) → value_of long (characters_only rules) body ≡ Some v → value_of long rules body ≡ Some v
  unfolding value_of walk_from
  value_stays v = walk_stays (length body - 0) 0 0 [] v

pub literal_stays : (rules : Rules) (raw v : List ℕ) → literal_value (characters_only rules) raw ≡ Some v → literal_value rules raw ≡ Some v
unfolding literal_value when◌then◌else◌
literal_stays rules raw v =
    go (ltb 0 (bracket_width raw)) (is_short raw) _ _ _ _ (value_stays true rules (long_string_body rules.lfcr_line_break raw) v) (value_stays false rules (part raw 1 (length raw - 1)) v)
  where
    go : (t u : Bool) (x y x' y' : Option (List ℕ)) → (x ≡ Some v → x' ≡ Some v) → (y ≡ Some v → y' ≡ Some v)
        → (when t then x else when u then y else None) ≡ Some v → (when t then x' else when u then y' else None) ≡ Some v
    go true u x y x' y' f g = f
    go false true x y x' y' f g = g
    go false false x y x' y' f g = λ e. e
