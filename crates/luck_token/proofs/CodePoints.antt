-- Laws of `\u{XXX}`: the piece that it is in a version that has it, and the value of a literal that has nothing else.
-- Assumes nothing.
use Rattle.std.specs.Prelude.{Option, None, Some}
use Prim.Native.Nat.{ℕ, zero, suc, ◌+◌, ◌-◌, ◌<◌}
use native.Mathlib.Nat.{le_refl}
use native.Mathlib.Omega.{arith}
use mathlib.Core.Path.{◌≡◌, refl, sym, ap, ◌∙◌}
use mathlib.Core.Bool.{Bool, true, false, ◌&&◌}
use mathlib.Core.List.{List, [], ◌∷◌, ◌++◌, append_assoc}
use lib.ListN.{length, drop, length-append}
use lib.Seq.{take_at, get_or_at}
use borrow.Author.Tests.{le-leb, eq-eqb}
use Rattle.luck_text.specs.Bytes.{when◌then◌else◌, byte_at, part, among, is_digit, is_xdigit, run, numeral}
use Rattle.luck_text.proofs.Cases.{present}
use Rattle.luck_text.proofs.Bytes.{hex_case}
use Rattle.luck_text.proofs.Walk.{walk_end}
use Rattle.luck_text.proofs.Among.{Every, every_among}
use Rattle.luck_utf8.specs.Utf8.{utf8_bytes, sequence_at, none_ill_formed, ill_formed}
use Rattle.luck_utf8.proofs.Sequences.{walk_ascii}
use Rattle.luck_token.specs.Version.{is_version, versions, has, rules_of}
use Rattle.luck_token.specs.Literal.{
  piece,
  malformed,
  is_short,
  other_escape,
  escape_kind,
  allows_code_point,
  unicode_escape,
  escape_piece,
  piece_at,
  value_of,
  literal_value,
}
use Rattle.luck_token.specs.declared.version.Rules.{Rules}
use Rattle.luck_token.specs.declared.string.Escape.{Escape}
use Rattle.luck_token.specs.declared.string.Escape.TheVariants.{Unicode, Itself}
use Rattle.luck_token.proofs.Literals.{escape_is, short_escape, piece_short}
use Rattle.luck_token.proofs.Values.{start, turn, bad, done, short_literal}

-- ---- The piece

pub no_limit : (t b : Bool) → (t && true && b) ≡ (t && b)
no_limit true b = refl
no_limit false b = refl

abbrev pub with_unicode : List ℕ
with_unicode = 3 ∷ 4 ∷ 5 ∷ 6 ∷ []

pub known_version : (version : ℕ) → among version with_unicode ≡ true → is_version version ≡ true
unfolding is_version
known_version = every_among (λ (v : ℕ). is_version v ≡ true) with_unicode (refl, (refl, (refl, (refl, tt))))

pub unicode_kind : (version : ℕ) → among version with_unicode ≡ true → escape_kind (rules_of version) 117 ≡ Some Unicode
unfolding escape_kind when◌then◌else◌ is_digit rules_of has is_version versions among
unicode_kind = every_among (λ (v : ℕ). escape_kind (rules_of v) 117 ≡ Some Unicode) with_unicode (refl, (refl, (refl, (refl, tt))))

module _ (body : List ℕ) (p : ℕ) (backslash : byte_at body p ≡ 92) (letter : byte_at body (p + 1) ≡ 117) where
  by_kind : (rules : Rules) (k : Option Escape) → escape_kind rules 117 ≡ k → piece_at false rules body p ≡ escape_piece rules k body p
  by_kind rules k kind =
      let there = present body (p + 1) (omega arith) in
      sym (escape_is rules body p there k (sym (ap (escape_kind rules) letter ∙ kind)) ∙ short_escape rules body p backslash ∙ piece_short rules body p false refl)

  pub letter_piece : piece_at false (rules_of 1) body p ≡ piece (117 ∷ []) 2
  unfolding escape_piece escape_kind other_escape when◌then◌else◌ is_digit rules_of has is_version versions among
  letter_piece = by_kind (rules_of 1) (Some Itself) refl ∙ ap (λ (b : ℕ). piece (b ∷ []) 2) letter

  pub no_piece : piece_at false (rules_of 2) body p ≡ malformed
  unfolding escape_piece escape_kind other_escape when◌then◌else◌ is_digit rules_of has is_version versions among
  no_piece = by_kind (rules_of 2) None refl

  module _ (opens : byte_at body (p + 2) ≡ 123) (count : ℕ) (n : count ≡ run is_xdigit (drop (p + 3) body)) (closes : byte_at body (p + 3 + count) ≡ 125) where
    pub unicode_piece : (rules : Rules) → escape_kind rules 117 ≡ Some Unicode → (c : ℕ) → c ≡ numeral 16 (part body (p + 3) (p + 3 + count))
        → piece_at false rules body p ≡ (when allows_code_point rules count c then piece (utf8_bytes c) (count + 4) else malformed)
    unfolding escape_piece unicode_escape
    unicode_piece rules kind c e = by_kind rules (Some Unicode) kind ∙ rw (← n, ← e, eq-eqb _ _ opens, eq-eqb _ _ closes)

-- ---- The literal

-- what stands between two double quotes
abbrev in_quotes : List ℕ → List ℕ
in_quotes body = 34 ∷ (body ++ (34 ∷ []))

module _ (body : List ℕ) where
  two_more : length (in_quotes body) ≡ length body + 2
  two_more = omega (arith, length-append body (34 ∷ []))

  is_short_lem : is_short (in_quotes body) ≡ true
  unfolding is_short
  is_short_lem =
      let end = length (in_quotes body) - 1 in
      let last : byte_at (in_quotes body) end ≡ 34 = get_or_at (34 ∷ body) 34 [] 0 end (omega (arith, two_more)) in
      rw (le-leb 2 (length (in_quotes body)) (omega (arith, two_more)), last)

  quoted_value : (rules : Rules) → literal_value rules (in_quotes body) ≡ value_of false rules body
  quoted_value rules =
      let end = length (in_quotes body) - 1 in
      let inner : part (in_quotes body) 1 end ≡ body = take_at body (34 ∷ []) (end - 1) (omega (arith, two_more)) in
      sym (short_literal rules (in_quotes body) is_short_lem) ∙ ap (value_of false rules) inner

-- a body that is one piece, or begins with a malformed one
module _ (long : Bool) (rules : Rules) (body : List ℕ) (some_byte : 0 < length body) where
  only_piece : (good : Bool) (bytes : List ℕ) → piece_at long rules body 0 ≡ (when good then piece bytes (length body) else malformed)
      → value_of long rules body ≡ (when good then Some bytes else None)
  unfolding when◌then◌else◌
  only_piece true bytes e =
      let end = turn long rules body 0 [] (value_of long rules body) (start long rules body) bytes (length body) (sym e) (omega arith) (omega arith) in
      sym (done long rules body (0 + length body) bytes (value_of long rules body) end (omega arith))
  only_piece false bytes e = sym (bad long rules body 0 [] (value_of long rules body) (start long rules body) (sym e) some_byte)

-- digits, up to a byte that is none
module _ (test : ℕ → Bool) where
  first_passes : (d : ℕ) (digits : List ℕ) → run test (d ∷ digits) ≡ suc (length digits) → (test d ≡ true) × (run test digits ≡ length digits)
  unfolding run when◌then◌else◌
  first_passes d digits = go (test d) refl
    where
      go : (t : Bool) → test d ≡ t → (when t then suc (run test digits) else 0) ≡ suc (length digits) → (test d ≡ true) × (run test digits ≡ length digits)
      go true q e = (q, omega arith)
      go false q e = absurd (omega arith)

  run_all : (digits : List ℕ) (b : ℕ) (after : List ℕ) → run test digits ≡ length digits → test b ≡ false → run test (digits ++ (b ∷ after)) ≡ length digits
  unfolding run when◌then◌else◌
  run_all [] b after e f = rw f
  run_all (d ∷ digits) b after e f =
      let h = first_passes d digits e in
      rw h.0 (ap suc (run_all digits b after h.1 f))

-- a text of ASCII bytes is UTF-8
abbrev Low : List ℕ → Type 0
Low text = Every (λ (b : ℕ). b < 0x80) text

low_at : (text : List ℕ) → Low text → (k : ℕ) → byte_at text k < 0x80
low_at [] l k = omega arith
low_at (b ∷ text) l zero = l.0
low_at (b ∷ text) l (suc k) = low_at text l.1 k

low_digits : (digits after : List ℕ) → run is_xdigit digits ≡ length digits → Low after → Low (digits ++ after)
low_digits [] after e l = l
low_digits (d ∷ digits) after e l =
    let h = first_passes is_xdigit d digits e in
    (hex_case (d < 0x80) d h.0 (λ _ n. omega arith) (λ _ n. omega arith) (λ _ n. omega arith), low_digits digits after h.1 l)

low_formed : (text : List ℕ) → Low text → None ≡ ill_formed text
unfolding ill_formed none_ill_formed
low_formed text l =
    sym (walk_ascii text 0 (length text) (omega arith) (le_refl (length text)) (λ k _ _. low_at text l k)
    ∙ walk_end (sequence_at text) none_ill_formed (length text) (length text) tt (le_refl (length text)))

-- `\u{`, these digits and `}`, and the literal that has nothing else
abbrev braced : List ℕ → List ℕ
braced digits = 92 ∷ 117 ∷ 123 ∷ (digits ++ (125 ∷ []))

abbrev pub escaped : List ℕ → List ℕ
escaped digits = 34 ∷ 92 ∷ 117 ∷ 123 ∷ (digits ++ (125 ∷ 34 ∷ []))

module _ (digits : List ℕ) (all : run is_xdigit digits ≡ length digits) where
  pub escaped_formed : None ≡ ill_formed (escaped digits)
  escaped_formed =
      let after = low_digits digits (125 ∷ 34 ∷ []) all (omega arith, (omega arith, tt)) in
      low_formed (escaped digits) (omega arith, (omega arith, (omega arith, (omega arith, after))))

  module _ (rules : Rules) (kind : escape_kind rules 117 ≡ Some Unicode) (c : ℕ) (e : c ≡ numeral 16 digits) where
    braced_value : value_of false rules (braced digits) ≡ (when allows_code_point rules (length digits) c then Some (utf8_bytes c) else None)
    unfolding is_xdigit is_digit
    braced_value =
        let body = braced digits in
        let count = length digits in
        let many : count + 4 ≡ length body = omega (arith, length-append digits (125 ∷ [])) in
        let inner : part body 3 (3 + count) ≡ digits = take_at digits (125 ∷ []) (3 + count - 3) (omega arith) in
        let closes : byte_at body (3 + count) ≡ 125 = get_or_at (92 ∷ 117 ∷ 123 ∷ digits) 125 [] 0 (3 + count) (omega arith) in
        only_piece false rules body (omega arith) (allows_code_point rules count c) (utf8_bytes c)
        (unicode_piece body 0 refl refl refl count (sym (run_all is_xdigit digits 125 [] all refl)) closes rules kind c (e ∙ ap (numeral 16) (sym inner)) ∙ rw many)

    pub escaped_value : literal_value rules (escaped digits) ≡ (when allows_code_point rules (length digits) c then Some (utf8_bytes c) else None)
    escaped_value = rw (← append_assoc digits (125 ∷ []) (34 ∷ [])) (quoted_value (braced digits) rules ∙ braced_value)
