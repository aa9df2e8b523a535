-- `luck_token::string::escape_of` meets its contract.
use Rattle.std.specs.Prelude.{Some}
use mathlib.Core.Path.{◌≡◌, ◌∙◌}
use Rattle.std.proofs.Common.{rules}
use mathlib.Core.Bool.{false}
use mathlib.Core.Logic.{◌⊎◌, inl, inr, ⊎_elim}
use mathlib.Core.List.{[], ◌∷◌}
use Prim.Native.Nat.{ℕ, ◌≤◌, ◌<◌}
use native.Mathlib.Omega.{arith}
use borrow.Author.Tests.{ne_eqb}
use types.Run.{OneOf}
use Rattle.luck_text.specs.Bytes.{when◌then◌else◌, between, among, is_digit}
use Rattle.luck_token.specs.Literal.{escape_kind, other_escape}
use Rattle.luck_token.specs.declared.version.Rules.{Rules}
use Rattle.luck_token.specs.declared.string.Escape.TheVariants.{Simple, LineBreak}
use Rattle.luck_text.proofs.Bytes.{below, above}
use Rattle.luck_text.proofs.Cases.{order}
use Rattle.luck_token.proofs.Literals.{decimal_escape_lem}
use Rattle.luck_token.proofs.string.escape_of.Goals as goal
use Rattle.luck_token.proofs.string.escape_of.Goals.{
  in_default-via-in-120+else-rules,
  in_default-via-in-122+else-rules-2,
  in_default-via-in-117+else-rules-3,
  in_default-via-in_default+then-byte-lt48,
  in_default-via-in_default+else-byte-lt48+else-byte-lt58+then-byte-lt97,
  in_default-via-in_default+else-byte-lt48+else-byte-lt58+else-byte-lt97+else-byte-lt99,
}

module _ (rules : Rules) (b : ℕ) where
  simple : OneOf (34 ∷ 39 ∷ 92 ∷ 102 ∷ 110 ∷ 114 ∷ 116 ∷ 118 ∷ []) b → Some Simple ≡ escape_kind rules b
  unfolding escape_kind among when◌then◌else◌
  simple (inl e) = rw e
  simple (inr (inl e)) = rw e
  simple (inr (inr (inl e))) = rw e
  simple (inr (inr (inr (inl e)))) = rw e
  simple (inr (inr (inr (inr (inl e))))) = rw e
  simple (inr (inr (inr (inr (inr (inl e)))))) = rw e
  simple (inr (inr (inr (inr (inr (inr (inl e))))))) = rw e
  simple (inr (inr (inr (inr (inr (inr (inr e))))))) = rw e

  -- `\a` and `\b`
  first_two : 97 ≤ b → b < 99 → Some Simple ≡ escape_kind rules b
  unfolding escape_kind among when◌then◌else◌
  first_two l h = ⊎_elim (λ s. let e : b ≡ 97 = omega arith in rw e) (λ g. let e : b ≡ 98 = omega arith in rw e) (order b 98)

  line_break : (b ≡ 10) ⊎ (b ≡ 13) → Some LineBreak ≡ escape_kind rules b
  unfolding escape_kind among when◌then◌else◌
  line_break (inl e) = rw e
  line_break (inr e) = rw e

  others : (OneOf (34 ∷ 39 ∷ 92 ∷ 102 ∷ 110 ∷ 114 ∷ 116 ∷ 118 ∷ []) b → ⊥) → ((b ≡ 10) ⊎ (b ≡ 13) → ⊥) → (b < 48) ⊎ (58 ≤ b) → (b < 97) ⊎ (99 ≤ b)
      → (b ≡ 120 → ⊥) → (b ≡ 122 → ⊥) → (b ≡ 117 → ⊥) → other_escape rules ≡ escape_kind rules b
  unfolding escape_kind among when◌then◌else◌ is_digit
  others n l d t x z u =
      let no_digit : between 48 57 b ≡ false = ⊎_elim (λ h. below 48 57 b h) (λ g. above 48 57 b (omega arith)) d in
      rw (
        ne_eqb b 97 (λ e. ⊎_elim (λ h. absurd (omega arith)) (λ g. absurd (omega arith)) t),
        ne_eqb b 98 (λ e. ⊎_elim (λ h. absurd (omega arith)) (λ g. absurd (omega arith)) t),
        ne_eqb b 102 (λ e. n (inr (inr (inr (inl e))))),
        ne_eqb b 110 (λ e. n (inr (inr (inr (inr (inl e)))))),
        ne_eqb b 114 (λ e. n (inr (inr (inr (inr (inr (inl e))))))),
        ne_eqb b 116 (λ e. n (inr (inr (inr (inr (inr (inr (inl e)))))))),
        ne_eqb b 118 (λ e. n (inr (inr (inr (inr (inr (inr (inr e)))))))),
        ne_eqb b 92 (λ e. n (inr (inr (inl e)))),
        ne_eqb b 34 (λ e. n (inl e)),
        ne_eqb b 39 (λ e. n (inr (inl e))),
        ne_eqb b 10 (λ e. l (inl e)),
        ne_eqb b 13 (λ e. l (inr e)),
        no_digit,
        ne_eqb b 120 x,
        ne_eqb b 122 z,
        ne_eqb b 117 u,
      )

pub returns-in-97 : goal.returns-in-97
returns-in-97 c = simple c.args.rules c.args.byte c.in-97.is

pub returns-in-97-2 : goal.returns-in-97-2
returns-in-97-2 c = first_two c.args.rules c.args.byte (omega arith) (omega arith)

pub returns-in-10 : goal.returns-in-10
returns-in-10 c = line_break c.args.rules c.args.byte c.in-10.is

pub returns-in-48-to-57 : goal.returns-in-48-to-57
returns-in-48-to-57 c = decimal_escape_lem c.args.rules c.args.byte (omega arith) (omega arith)

pub returns-in-120 : goal.returns-in-120
unfolding escape_kind among when◌then◌else◌ is_digit
returns-in-120 c = rw (c.in-120.is, c.if-rules.true)

pub returns-in-122 : goal.returns-in-122
unfolding escape_kind among when◌then◌else◌ is_digit
returns-in-122 c = rw (c.in-122.is, c.if-rules-2.true)

pub returns-in-117 : goal.returns-in-117
unfolding escape_kind among when◌then◌else◌ is_digit
returns-in-117 c = rw (c.in-117.is, c.if-rules-3.true)

pub returns-in_default : goal.returns-in_default
unfolding escape_kind among when◌then◌else◌ is_digit
returns-in_default c =
    c.other_escape.ensures
    ∙ elim c.in_default.branch [
      | in_default-via-in-120+else-rules w ↦ rw (w.in-120.is, w.if-rules.false)
      | in_default-via-in-122+else-rules-2 w ↦ rw (w.in-122.is, w.if-rules-2.false)
      | in_default-via-in-117+else-rules-3 w ↦ rw (w.in-117.is, w.if-rules-3.false)
      | in_default-via-in_default+then-byte-lt48 w ↦
          others c.args.rules c.args.byte (λ h. search rules) (λ h. search rules) (inl (omega arith)) (inl (omega arith)) (λ e. absurd (omega arith)) (λ e. absurd (omega arith)) (λ e. absurd (omega arith))
      | in_default-via-in_default+else-byte-lt48+else-byte-lt58+then-byte-lt97 w ↦
          others c.args.rules c.args.byte (λ h. search rules) (λ h. search rules) (inr (omega arith)) (inl (omega arith)) (λ e. absurd (omega arith)) (λ e. absurd (omega arith)) (λ e. absurd (omega arith))
      | in_default-via-in_default+else-byte-lt48+else-byte-lt58+else-byte-lt97+else-byte-lt99 w ↦
          others c.args.rules c.args.byte (λ h. search rules) (λ h. search rules) (inr (omega arith)) (inr (omega arith)) (λ e. absurd (omega arith)) (λ e. absurd (omega arith)) (λ e. absurd (omega arith))
    ]
