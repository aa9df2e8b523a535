-- Laws of what is tested of a text before it is read: the version, then UTF-8.
-- Assumes nothing.
use Rattle.std.specs.Prelude.{Option, None, Some, Ok, Err}
use Prim.Native.Nat.{ℕ, ◌-◌, ◌<◌}
use mathlib.Core.Path.{◌≡◌, refl, sym, ap, ◌∙◌}
use mathlib.Core.Bool.{Bool, true, false}
use mathlib.Core.List.{List}
use native.Mathlib.Omega.{arith}
use lib.ListN.{length}
use lib.Dec.{eqb}
use Rattle.luck_text.proofs.Cases.{by_test, if_true, if_false}
use Rattle.luck_text.proofs.Keeps.{Turns, walk_keeps}
use Rattle.luck_utf8.specs.Utf8.{sequence, sequence_at, none_ill_formed, ill_formed}
use Rattle.luck_text.specs.Bytes.{when◌then◌else◌}
use Rattle.luck_token.specs.Version.{is_version, rules_of}
use Rattle.luck_token.specs.Text.{after_version, after_utf8, after_text, text_error, text_refusal, read_text}
use Rattle.luck_token.specs.declared.version.Rules.{Rules}
use Rattle.luck_token.specs.declared.text.TextError.{TextError}
use Rattle.luck_token.specs.declared.text.TextError.TheVariants.{UnknownVersion, NotUtf8}

module _ {A : Type 0} (refusal : ℕ → ℕ → A) (version : ℕ) (text : List ℕ) (answer : A) where
  pub text_fine : is_version version ≡ true → None ≡ ill_formed text → answer ≡ after_text refusal version text answer
  unfolding after_text after_version after_utf8
  text_fine v u = ap (λ (o : Option ℕ). after_utf8 refusal o answer) u ∙ sym (if_true _ _ _ v)

  pub text_ill_formed : is_version version ≡ true → (place : ℕ) → Some place ≡ ill_formed text → refusal 23 place ≡ after_text refusal version text answer
  unfolding after_text after_version after_utf8
  text_ill_formed v place u = ap (λ (o : Option ℕ). after_utf8 refusal o answer) u ∙ sym (if_true _ _ _ v)

  pub text_unknown_version : is_version version ≡ false → refusal 25 0 ≡ after_text refusal version text answer
  unfolding after_text after_version
  text_unknown_version v = sym (if_false _ _ _ v)

-- the first ill-formed sequence lies in the text
abbrev PlaceIn : ℕ → Option ℕ → Type 0
PlaceIn len None = Unit {0}
PlaceIn len (Some p) = p < len

place_in : (text : List ℕ) → PlaceIn (length text) (ill_formed text)
unfolding ill_formed sequence_at none_ill_formed
place_in text =
    walk_keeps (sequence_at text) none_ill_formed (length text) (λ left u. Unit {0}) (PlaceIn (length text))
    (λ p u h _. by_test (Turns (λ left u. Unit {0}) (PlaceIn (length text)) (length text - p)) (eqb (sequence text p) 0) _ _ (λ _. h) (λ _. tt))
    (λ p u _. tt) tt tt

-- what holds of both refusals and of the answer that follows holds in any case
module _ {A : Type 0} (P : A → Type 0) (refusal : ℕ → ℕ → A) (text : List ℕ) (answer : A)
    (of_25 : P (refusal 25 0)) (of_23 : (place : ℕ) → place < length text → P (refusal 23 place)) (of_answer : P answer) where
  by_place : (place : Option ℕ) → PlaceIn (length text) place → P (after_utf8 refusal place answer)
  unfolding after_utf8
  by_place None h = of_answer
  by_place (Some place) h = of_23 place h

  pub in_any_case : (version : ℕ) → P (after_text refusal version text answer)
  unfolding after_text after_version
  in_any_case version = by_test P (is_version version) _ _ (λ _. by_place (ill_formed text) (place_in text)) (λ _. of_25)

-- ---- What the code reads of a text first, against any answer that is wanted

module _ (version : ℕ) (text : List ℕ) where
  -- where it is refused, the refusal is the answer that is wanted
  pub by_error : {A : Type 0} (refusal : ℕ → ℕ → A) (e : TextError) → read_text version text ≡ Err e → (answer : A)
      → text_refusal refusal e ≡ after_text refusal version text answer
  unfolding read_text after_text after_version after_utf8 when◌then◌else◌
  by_error {A = A} refusal e h answer = go (is_version version) (ill_formed text) h
    where
      go : (t : Bool) (place : Option ℕ) → (when t then after_utf8 (λ number place. Err (text_error number place)) place (Ok (rules_of version)) else Err UnknownVersion) ≡ Err e
          → text_refusal refusal e ≡ (when t then after_utf8 refusal place answer else refusal 25 0)
      go false place h = let s : e ≡ UnknownVersion = cc in ap (text_refusal refusal) s
      go true None h = let z : ◌≡◌ {A = ℕ} 0 1 = cc in absurd (omega arith)
      go true (Some p) h = let s : e ≡ NotUtf8 p = cc in ap (text_refusal refusal) s

  -- where it is not, the rules are those of the version, and the answer that is wanted is that of what is read next
  pub by_rules : {A : Type 0} (refusal : ℕ → ℕ → A) (rules : Rules) → read_text version text ≡ Ok rules
      → (rules ≡ rules_of version) × ((answer : A) → answer ≡ after_text refusal version text answer)
  unfolding read_text after_text after_version after_utf8 when◌then◌else◌
  by_rules {A = A} refusal rules h = go (is_version version) (ill_formed text) h
    where
      go : (t : Bool) (place : Option ℕ) → (when t then after_utf8 (λ number place. Err (text_error number place)) place (Ok (rules_of version)) else Err UnknownVersion) ≡ Ok rules
          → (rules ≡ rules_of version) × ((answer : A) → answer ≡ (when t then after_utf8 refusal place answer else refusal 25 0))
      go false place h = let z : ◌≡◌ {A = ℕ} 0 1 = cc in absurd (omega arith)
      go true None h = (cc, λ answer. refl)
      go true (Some p) h = let z : ◌≡◌ {A = ℕ} 0 1 = cc in absurd (omega arith)
