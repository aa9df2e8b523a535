-- Where nothing can be refused (F-6 of document 02): a replacement of 5.1 with captures unknown, or known to be 9 or
-- more, is accepted once it is known to be UTF-8; and what is refused with lower counts and in other versions.
-- Assumes nothing.
use Rattle.std.specs.Prelude.{Option, None, Some}
use Prim.Native.Nat.{ℕ, zero, suc, ◌+◌, ◌≤◌, ◌<◌, max}
use native.Mathlib.Omega.{arith}
use mathlib.Core.Path.{◌≡◌, refl, sym, ap, ◌∙◌}
use mathlib.Core.Bool.{Bool, true, false, ◌&&◌, true≢false}
use mathlib.Core.List.{List, [], ◌∷◌}
use lib.Dec.{eqb, leb}
use borrow.Author.Tests.{not-false, leb-true, le-leb, lt-leb}
use Rattle.luck_text.specs.Bytes.{when◌then◌else◌, ascii, is_digit}
use Rattle.luck_text.proofs.Bytes.{above}
use Rattle.luck_text.proofs.Cases.{by_test, and_right}
use Rattle.luck_token.specs.Version.{is_version, rules_of}
use Rattle.luck_utf8.specs.Utf8.{ill_formed}
use Rattle.luck_answer.specs.Answer.{Answer, accepted, refused, check_text}
use Rattle.luck_answer.proofs.Texts.{text_fine}
use Rattle.luck_replacement.specs.Replacement.{
  is_strict,
  Piece,
  literal,
  digit,
  percent,
  other,
  lone,
  escaped,
  pieces,
  allows_digit,
  pieces_walk,
  check_replacement,
}
use Rattle.luck_replacement.specs.Inner.{can_refuse}
use Rattle.luck_replacement.specs.Counts.{from_to, for_every, check_ranged, largest_digit}
use Rattle.luck_replacement.specs.Computed.{computed}
use Rattle.luck_replacement.proofs.Counts.{accepted_for_every}

-- no digit of a text is above 9
escaped_nine : (c : ℕ) (ps : List Piece) → largest_digit ps ≤ 9 → largest_digit (escaped c ∷ ps) ≤ 9
unfolding escaped largest_digit is_digit
escaped_nine c ps h =
    by_test (λ (x : Piece). largest_digit (x ∷ ps) ≤ 9) (eqb c 37) _ _ (λ t. h)
    (λ t.
    by_test (λ (x : Piece). largest_digit (x ∷ ps) ≤ 9) (leb 48 c && leb c 57) _ _
    (λ u. let g = leb-true c 57 (and_right (leb 48 c) (leb c 57) u) in omega arith) (λ u. h))

pub nine : (text : List ℕ) → largest_digit (pieces text) ≤ 9
unfolding pieces largest_digit
nine [] = omega arith
nine (b ∷ []) = by_test (λ (x : Piece). largest_digit (x ∷ []) ≤ 9) (eqb b 37) _ _ (λ t. omega arith) (λ t. omega arith)
nine (b ∷ c ∷ more) =
    by_test (λ (ps : List Piece). largest_digit ps ≤ 9) (eqb b 37) _ _ (λ t. escaped_nine c (pieces more) (nine more)) (λ t. nine (c ∷ more))

-- the walk looks at no more of a count than which digits it allows
pub same_digits : (strict : Bool) (a b : Option ℕ) → ((d : ℕ) → d ≤ 9 → allows_digit a d ≡ allows_digit b d)
    → (ps : List Piece) (p : ℕ) → largest_digit ps ≤ 9 → pieces_walk strict a ps p ≡ pieces_walk strict b ps p
unfolding pieces_walk largest_digit
same_digits strict a b same [] p h = refl
same_digits strict a b same (literal c ∷ ps) p h = same_digits strict a b same ps (p + 1) h
same_digits strict a b same (digit d ∷ ps) p h =
    ap (λ (t : Bool). when t then pieces_walk strict a ps (p + 2) else refused 21 (p + 1)) (same d (omega arith))
    ∙ ap (λ (on : Answer). when allows_digit b d then on else refused 21 (p + 1)) (same_digits strict a b same ps (p + 2) (omega arith))
same_digits strict a b same (percent ∷ ps) p h = same_digits strict a b same ps (p + 2) h
same_digits strict a b same (other c ∷ ps) p h = ap (λ (on : Answer). when strict then refused 20 (p + 1) else on) (same_digits strict a b same ps (p + 2) h)
same_digits strict a b same (lone ∷ ps) p h = ap (λ (on : Answer). when strict then refused 19 p else on) (same_digits strict a b same ps (p + 1) h)

pub same_walk : (strict : Bool) (a b : Option ℕ) (text : List ℕ) → ((d : ℕ) → d ≤ 9 → allows_digit a d ≡ allows_digit b d)
    → pieces_walk strict a (pieces text) 0 ≡ pieces_walk strict b (pieces text) 0
same_walk strict a b text same = same_digits strict a b same (pieces text) 0 (nine text)

-- without strict rules and with captures unknown, it refuses nothing
lenient : (ps : List Piece) (p : ℕ) → pieces_walk false None ps p ≡ accepted 0
unfolding pieces_walk allows_digit when◌then◌else◌
lenient [] p = refl
lenient (literal b ∷ ps) p = lenient ps (p + 1)
lenient (digit d ∷ ps) p = lenient ps (p + 2)
lenient (percent ∷ ps) p = lenient ps (p + 2)
lenient (other b ∷ ps) p = lenient ps (p + 2)
lenient (lone ∷ ps) p = lenient ps (p + 1)

-- a count that allows 9 allows each digit
pub up_to_nine : (count : Option ℕ) → allows_digit count 9 ≡ true → (d : ℕ) → d ≤ 9 → allows_digit count d ≡ true
unfolding allows_digit
up_to_nine None t d h = refl
up_to_nine (Some count) t d h = le-leb d (max count 1) (omega (arith, leb-true 9 (max count 1) t))

-- so the walk need not be made
pub unread : (count : Option ℕ) (text : List ℕ) → allows_digit count 9 ≡ true → pieces_walk false count (pieces text) 0 ≡ accepted 0
unfolding allows_digit
unread count text t = same_digits false count None (up_to_nine count t) (pieces text) 0 (nine text) ∙ lenient (pieces text) 0

pub nothing_refused : (strict : Bool) (count : Option ℕ) (text : List ℕ) → can_refuse strict count ≡ false → accepted 0 ≡ pieces_walk strict count (pieces text) 0
unfolding can_refuse
nothing_refused true count text e = absurd (true≢false e)
nothing_refused false count text e = sym (unread count text (not-false _ e))

pub unknown_allows : allows_digit None 9 ≡ true
unfolding allows_digit
unknown_allows = refl

pub from_nine_allows : (count : ℕ) → 9 ≤ count → allows_digit (Some count) 9 ≡ true
unfolding allows_digit
from_nine_allows count h = le-leb 9 (max count 1) (omega arith)

-- ---- The check of 5.1

pub is_version_1 : is_version 1 ≡ true
unfolding is_version
is_version_1 = refl

lenient_51 : is_strict (rules_of 1) ≡ false
unfolding computed
lenient_51 = refl

-- is that of the version and of UTF-8, where the walk accepts
pub check_of_walk : (count : Option ℕ) (text : List ℕ) → pieces_walk false count (pieces text) 0 ≡ accepted 0
    → check_replacement 1 count text ≡ check_text 1 text (accepted 0)
unfolding check_replacement
check_of_walk count text e = ap (check_text 1 text) (ap (λ (strict : Bool). pieces_walk strict count (pieces text) 0) lenient_51 ∙ e)

-- so it tests no more than these where the digit 9 is allowed
pub no_more_tested : (count : Option ℕ) (text : List ℕ) → allows_digit count 9 ≡ true → check_replacement 1 count text ≡ check_text 1 text (accepted 0)
no_more_tested count text t = check_of_walk count text (unread count text t)

pub accepts_utf8 : (count : Option ℕ) (text : List ℕ) → allows_digit count 9 ≡ true → ill_formed text ≡ None
    → check_replacement 1 count text ≡ accepted 0
accepts_utf8 count text t e = no_more_tested count text t ∙ sym (text_fine 1 text (accepted 0) is_version_1 (sym e))

-- a range from 9 on is accepted for every count
pub check_range : (low high : ℕ) (text : List ℕ) → 9 ≤ low → low ≤ high → ill_formed text ≡ None
    → check_ranged 1 (from_to low high) text ≡ for_every
check_range low high text h upwards e =
    (accepted_for_every 1 low high text upwards).1 (λ c i. accepts_utf8 (Some c) text (from_nine_allows c (omega (arith, i.0))) e)

-- ---- With a lower count, and in another version

pub nine_refused : (count : ℕ) → count < 9 → check_replacement 1 (Some count) (ascii "%9") ≡ refused 21 1
unfolding computed
nine_refused count h = rw (lt-leb 9 (max count 1) (omega arith))

strict : (version : ℕ) → is_version version ≡ true → (version ≡ 1 → ⊥) → is_strict (rules_of version) ≡ true
unfolding computed
strict zero known n = absurd (true≢false (sym known))
strict (suc zero) known n = absurd (n refl)
strict (suc (suc zero)) known n = refl
strict (suc (suc (suc zero))) known n = refl
strict (suc (suc (suc (suc zero)))) known n = refl
strict (suc (suc (suc (suc (suc zero))))) known n = refl
strict (suc (suc (suc (suc (suc (suc zero)))))) known n = refl
strict (suc (suc (suc (suc (suc (suc (suc v))))))) known n = absurd (true≢false (sym known ∙ above 1 6 (suc (suc (suc (suc (suc (suc (suc v))))))) (omega arith)))

pub lone_refused : (version : ℕ) (captures : Option ℕ) → is_version version ≡ true → (version ≡ 1 → ⊥)
    → check_replacement version captures (ascii "%") ≡ refused 19 0
unfolding computed
lone_refused version captures known n =
    sym (text_fine version (ascii "%") _ known refl) ∙ ap (λ s. pieces_walk s captures (pieces (ascii "%")) 0) (strict version known n)
