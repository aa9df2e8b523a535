-- The answer for a range of counts: what each of the three says of the single counts, and how it is found by the
-- lowest, the highest and the largest digit.
-- Assumes nothing.
use Rattle.std.specs.Prelude.{Option, None, Some}
use Prim.Native.Nat.{ℕ, zero, suc, ◌+◌, ◌-◌, ◌≤◌, ◌<◌, max}
use native.Mathlib.Omega.{arith}
use mathlib.Core.Path.{◌≡◌, refl, sym, ap, subst, ◌∙◌}
use mathlib.Core.Logic.{◌⊎◌, inl, inr, ⊎_elim, ◌↔◌}
use mathlib.Core.Bool.{Bool, true, false, not, true≢false}
use mathlib.Core.List.{List, [], ◌∷◌}
use lib.Dec.{leb, ltb}
use borrow.Author.Tests.{not-true, leb-true, le-leb, lt-ltb, le-ltb}
use Rattle.luck_text.specs.Bytes.{when◌then◌else◌}
use Rattle.luck_text.proofs.Cases.{by_test, if_true, if_false, and_left, and_right, both_true, order}
use Rattle.luck_token.specs.Version.{is_version, rules_of}
use Rattle.luck_utf8.specs.Utf8.{ill_formed}
use Rattle.luck_token.specs.Text.{after_version, after_utf8, after_text}
use Rattle.luck_answer.specs.Answer.{Answer, accepted, refused, check_text}
use Rattle.luck_answer.proofs.Texts.{text_ill_formed, text_unknown_version, in_any_case}
use Rattle.luck_replacement.specs.Replacement.{is_strict, Piece, literal, digit, percent, other, lone, pieces, allows_digit, pieces_walk, check_replacement}
use Rattle.luck_replacement.specs.Counts.{
  Counts,
  unknown,
  from_to,
  Ranged,
  for_every,
  for_none,
  depends,
  is_accepted,
  alone,
  accepted_for_all,
  smallest_accepted,
  refused_or_depends,
  for_counts,
  for_range,
  check_ranged,
  accepts,
  largest_digit,
  by_ends,
}

-- ---- Any check of a count

abbrev pub Accepted : Answer → Type 0
Accepted a = is_accepted a ≡ true

abbrev pub Refused : Answer → Type 0
Refused a = is_accepted a ≡ false

pub never_both : {X : Type 0} (a : Answer) → Accepted a → Refused a → X
never_both a t f = absurd (true≢false (sym t ∙ f))

pub either : (a : Answer) → Accepted a ⊎ Refused a
either a = go (is_accepted a) refl
  where
    go : (b : Bool) → is_accepted a ≡ b → Accepted a ⊎ Refused a
    go true e = inl e
    go false e = inr e

-- in the range, m is where acceptance begins: above the lowest, and a count is accepted exactly where it is m or more
abbrev pub AcceptedFrom : (ℕ → Answer) → ℕ → ℕ → ℕ → Type 0
AcceptedFrom check low high m = (low < m) × (m ≤ high) × ((c : ℕ) → low ≤ c → c ≤ high → Accepted (check c) ↔ (m ≤ c))

module _ (check : ℕ → Answer) where
  all_accepted : (n low : ℕ) → accepted_for_all check n low ≡ true → (c : ℕ) → low ≤ c → c < low + n → Accepted (check c)
  unfolding accepted_for_all
  all_accepted zero low e c h k = absurd (omega arith)
  all_accepted (suc n) low e c h k =
      ⊎_elim (λ above. all_accepted n (low + 1) (and_right (is_accepted (check low)) _ e) c (omega arith) (omega arith))
      (λ same. let q : low ≡ c = omega arith in subst (λ (x : ℕ). Accepted (check x)) q (and_left (is_accepted (check low)) _ e)) (order low c)

  accepted_all : (n low : ℕ) → ((c : ℕ) → low ≤ c → c < low + n → Accepted (check c))
      → accepted_for_all check n low ≡ true
  unfolding accepted_for_all
  accepted_all zero low f = refl
  accepted_all (suc n) low f = both_true (is_accepted (check low)) _ (f low (omega arith) (omega arith)) (accepted_all n (low + 1) (λ c h k. f c (omega arith) (omega arith)))

  -- what was found is accepted, and none before it is
  record Smallest (n low m : ℕ) : Type 0 where
    pub from : low ≤ m
    pub below : m < low + n
    pub is : Accepted (check m)
    pub first : (c : ℕ) → low ≤ c → c < m → Refused (check c)

  abbrev Found : ℕ → ℕ → Option ℕ → Type 0
  Found n low None = (c : ℕ) → low ≤ c → c < low + n → Refused (check c)
  Found n low (Some m) = Smallest n low m

  one_more : (n low : ℕ) → Refused (check low) → (o : Option ℕ) → Found n (low + 1) o → Found (suc n) low o
  one_more n low r None f = λ c h k.
      ⊎_elim (λ above. f c (omega arith) (omega arith)) (λ same. let q : low ≡ c = omega arith in subst (λ (x : ℕ). Refused (check x)) q r) (order low c)
  one_more n low r (Some m) f =
      record {
        from = omega (arith, f.from);
        below = omega (arith, f.below);
        is = f.is;
        first = λ c h k.
            ⊎_elim (λ above. f.first c (omega arith) k) (λ same. let q : low ≡ c = omega arith in subst (λ (x : ℕ). Refused (check x)) q r) (order low c);
      }

  smallest : (n low : ℕ) → Found n low (smallest_accepted check n low)
  unfolding smallest_accepted
  smallest zero low = λ c h k. absurd (omega arith)
  smallest (suc n) low =
      by_test (Found (suc n) low) (is_accepted (check low)) _ _
      (λ t. record { from = omega arith; below = omega arith; is = t; first = λ c h k. absurd (omega arith) })
      (λ t. one_more n low t (smallest_accepted check n (low + 1)) (smallest n (low + 1)))

  module _ (low high : ℕ) where
    -- accepted for every count
    pub every : (for_range check low high ≡ for_every) ↔ ((c : ℕ) → low ≤ c → c ≤ high → Accepted (check c))
    unfolding for_range for_counts
    every = (
      λ e c h k.
          by_test (λ (r : Ranged). r ≡ for_every → Accepted (check c)) (accepted_for_all check (high + 1 - low) low) _ _
          (λ t f. all_accepted (high + 1 - low) low t c h (omega arith)) (λ t f. absurd (never (smallest_accepted check (high + 1 - low) low) f)) e,
      λ f. if_true _ _ _ (accepted_all (high + 1 - low) low (λ c h k. f c h (omega arith))),
    )
      where
        never : (o : Option ℕ) → refused_or_depends check low o ≡ for_every → ⊥
        never None e = unfold refused_or_depends in (let z : ◌≡◌ {A = ℕ} 0 1 = cc in omega arith)
        never (Some m) e = unfold refused_or_depends in (let z : ◌≡◌ {A = ℕ} 0 1 = cc in omega arith)

    module _ (upwards : low ≤ high) where
      not_all : Refused (check low) → accepted_for_all check (high + 1 - low) low ≡ false
      not_all r = go (accepted_for_all check (high + 1 - low) low) refl
        where
          go : (b : Bool) → accepted_for_all check (high + 1 - low) low ≡ b
              → accepted_for_all check (high + 1 - low) low ≡ false
          go true e = never_both (check low) (all_accepted (high + 1 - low) low e low (omega arith) (omega arith)) r
          go false e = e

      -- refused for every one, with the refusal of the lowest
      pub none_of : (a : Answer)
          → (for_range check low high ≡ for_none a) ↔ (((c : ℕ) → low ≤ c → c ≤ high → Refused (check c)) × (a ≡ check low))
      unfolding for_range for_counts
      none_of a = (
        λ e.
            by_test (λ (r : Ranged). r ≡ for_none a → ((c : ℕ) → low ≤ c → c ≤ high → Refused (check c)) × (a ≡ check low)) (accepted_for_all check (high + 1 - low) low) _ _
            (λ t f. let z : ◌≡◌ {A = ℕ} 0 1 = cc in absurd (omega arith))
            (λ t f. there (smallest_accepted check (high + 1 - low) low) (smallest (high + 1 - low) low) f) e,
        λ y. if_false _ _ _ (not_all (y.0 low (omega arith) upwards)) ∙ back y.0 y.1 (smallest_accepted check (high + 1 - low) low) (smallest (high + 1 - low) low),
      )
        where
          there : (o : Option ℕ) → Found (high + 1 - low) low o → refused_or_depends check low o ≡ for_none a
              → ((c : ℕ) → low ≤ c → c ≤ high → Refused (check c)) × (a ≡ check low)
          there None f e = (λ c h k. f c h (omega arith), none_same e)
            where
              none_same : refused_or_depends check low None ≡ for_none a → a ≡ check low
              none_same e = unfold refused_or_depends in cc
          there (Some m) f e = unfold refused_or_depends in (let z : ◌≡◌ {A = ℕ} 0 1 = cc in absurd (omega arith))

          back : ((c : ℕ) → low ≤ c → c ≤ high → Refused (check c)) → a ≡ check low → (o : Option ℕ)
              → Found (high + 1 - low) low o → refused_or_depends check low o ≡ for_none a
          back r same None f = unfold refused_or_depends in ap for_none (sym same)
          back r same (Some m) f = never_both (check m) f.is (r m f.from (omega (arith, f.below)))

      -- where acceptance grows with the count: dependent on it, with the smallest count for which it is accepted
      module _ (grows : (c d : ℕ) → c ≤ d → Accepted (check c) → Accepted (check d)) where
        pub depends_on : (m : ℕ) → (for_range check low high ≡ depends m) ↔ AcceptedFrom check low high m
        unfolding for_range for_counts
        depends_on m = (
          λ e.
              by_test (λ (r : Ranged). r ≡ depends m → AcceptedFrom check low high m) (accepted_for_all check (high + 1 - low) low) _ _
              (λ t f. let z : ◌≡◌ {A = ℕ} 0 1 = cc in absurd (omega arith))
              (λ t f. there t (smallest_accepted check (high + 1 - low) low) (smallest (high + 1 - low) low) f) e,
          λ y.
              if_false _ _ _ (not_all (refused_low y)) ∙ back y (smallest_accepted check (high + 1 - low) low) (smallest (high + 1 - low) low),
        )
          where
            refused_below : AcceptedFrom check low high m → (c : ℕ) → low ≤ c → c ≤ high → c < m → Refused (check c)
            refused_below y c h k l = ⊎_elim (λ t. absurd (omega (arith, (y.2 c h k).0 t))) (λ f. f) (either (check c))

            refused_low : AcceptedFrom check low high m → Refused (check low)
            refused_low y = refused_below y low (omega arith) upwards y.0

            behind : accepted_for_all check (high + 1 - low) low ≡ false → Smallest (high + 1 - low) low m → low < m
            behind t f =
                ⊎_elim (λ l. l)
                (λ l.
                let same : m ≡ low = omega (arith, f.from) in
                absurd (true≢false (sym (accepted_all (high + 1 - low) low (λ c h k. grows m c (omega arith) f.is)) ∙ t)))
                (order low m)

            there : accepted_for_all check (high + 1 - low) low ≡ false → (o : Option ℕ) → Found (high + 1 - low) low o
                → refused_or_depends check low o ≡ depends m → AcceptedFrom check low high m
            there t None f e = unfold refused_or_depends in (let z : ◌≡◌ {A = ℕ} 0 1 = cc in absurd (omega arith))
            there t (Some x) f e = split t (subst (Smallest (high + 1 - low) low) (same_count e) f)
              where
                same_count : refused_or_depends check low (Some x) ≡ depends m → x ≡ m
                same_count e = unfold refused_or_depends in cc

                split : accepted_for_all check (high + 1 - low) low ≡ false → Smallest (high + 1 - low) low m
                    → AcceptedFrom check low high m
                split t f = (
                  behind t f,
                  omega (arith, f.below),
                  λ c h k. (λ a. ⊎_elim (λ l. never_both (check c) a (f.first c h l)) (λ l. l) (order c m), λ l. grows m c l f.is),
                )

            back : AcceptedFrom check low high m → (o : Option ℕ) → Found (high + 1 - low) low o
                → refused_or_depends check low o ≡ depends m
            back y None f = never_both (check m) ((y.2 m (omega (arith, y.0)) y.1).1 (omega arith)) (f m (omega (arith, y.0)) (omega (arith, y.1)))
            back y (Some x) f = unfold refused_or_depends in ap depends same
              where
                same : x ≡ m
                same =
                    ⊎_elim (λ l. never_both (check m) ((y.2 m (omega (arith, y.0)) y.1).1 (omega arith)) (f.first m (omega (arith, y.0)) l))
                    (λ l. let g = (y.2 x f.from (omega (arith, f.below))).0 f.is in omega arith) (order m x)

-- ---- A check that goes by the largest digit

-- where some count is accepted, any other is exactly where the largest digit is at most it, or 1
abbrev pub ByLargest : (ℕ → Answer) → ℕ → Type 0
ByLargest check largest = (one c : ℕ) → Accepted (check one) → Accepted (check c) ↔ (largest ≤ max c 1)

module _ (check : ℕ → Answer) (largest : ℕ) (law : ByLargest check largest) where
  -- acceptance grows with the count
  pub larger_accepted : (c d : ℕ) → c ≤ d → Accepted (check c) → Accepted (check d)
  larger_accepted c d h a = let l = (law c c a).0 a in (law c d a).1 (omega arith)

  module _ (low high : ℕ) (upwards : low ≤ high) where
    pub accepted_from : Refused (check low) → Accepted (check high) → AcceptedFrom check low high largest
    accepted_from f t =
        let above : max low 1 < largest = ⊎_elim (λ l. l) (λ l. never_both (check low) ((law high low t).1 l) f) (order (max low 1) largest) in
        let below : largest ≤ max high 1 = (law high high t).0 t in
        (omega arith, omega arith, λ c h k. (λ a. let l = (law high c t).0 a in omega arith, λ l. (law high c t).1 (omega arith)))

    -- the answer for a range is found by the answers at its ends and the largest digit
    pub ends : for_range check low high ≡ by_ends (check low) (check high) largest
    unfolding by_ends
    ends =
        by_test (λ (r : Ranged). for_range check low high ≡ r) (is_accepted (check low)) _ _ (λ t. (every check low high).1 (λ c h k. larger_accepted low c h t))
        (λ f.
        by_test (λ (r : Ranged). for_range check low high ≡ r) (is_accepted (check high)) _ _
        (λ t. (depends_on check low high upwards larger_accepted largest).1 (accepted_from f t))
        (λ g.
        (none_of check low high upwards (check low)).1
        ((λ c h k. ⊎_elim (λ t. never_both (check high) (larger_accepted c high k t) g) (λ r. r) (either (check c))), refl)))

    -- the smallest count is the largest digit, and at least 2
    pub smallest_largest : (m : ℕ) → for_range check low high ≡ depends m → (m ≡ largest) × (2 ≤ m)
    smallest_largest m e =
        let y = (depends_on check low high upwards larger_accepted m).0 e in
        let top = (y.2 high upwards (omega arith)).1 y.1 in
        let below : largest ≤ max m 1 = (law high m top).0 ((y.2 m (omega (arith, y.0)) y.1).1 (omega arith)) in
        let refused_low : Refused (check low) = ⊎_elim (λ a. absurd (omega (arith, y.0, (y.2 low (omega arith) upwards).0 a))) (λ f. f) (either (check low)) in
        let from = accepted_from refused_low top in
        let above : m ≤ largest = (y.2 largest (omega (arith, from.0)) from.1).0 ((law high largest top).1 (omega arith)) in
        let l : max low 1 < largest = ⊎_elim (λ l. l) (λ l. never_both (check low) ((law high low top).1 l) refused_low) (order (max low 1) largest) in
        (omega (arith, y.0), omega (arith, y.0))

-- one count
pub single : (check : ℕ → Answer) (count : ℕ) → for_range check count count ≡ alone (check count)
unfolding for_range
single check count = let n : count + 1 - count ≡ 1 = omega arith in rw n (one (is_accepted (check count)) refl)
  where
    one : (b : Bool) → is_accepted (check count) ≡ b → for_counts check 1 count ≡ alone (check count)
    one true e = unfold for_counts accepted_for_all smallest_accepted alone when◌then◌else◌ in rw e
    one false e = unfold for_counts accepted_for_all smallest_accepted refused_or_depends alone when◌then◌else◌ in rw e

-- a check that no count alters is dependent on none
pub constant : (check : ℕ → Answer) → ((c d : ℕ) → check c ≡ check d) → (low high m : ℕ)
    → for_range check low high ≡ depends m → ⊥
unfolding for_range for_counts
constant check same low high m =
    by_test (λ (r : Ranged). r ≡ depends m → ⊥) (accepted_for_all check (high + 1 - low) low) _ _ (λ t e. let z : ◌≡◌ {A = ℕ} 0 1 = cc in omega arith)
    (λ t e. go t (smallest_accepted check (high + 1 - low) low) (smallest check (high + 1 - low) low) e)
  where
    go : accepted_for_all check (high + 1 - low) low ≡ false → (o : Option ℕ) → Found check (high + 1 - low) low o
        → refused_or_depends check low o ≡ depends m → ⊥
    go t None f e = unfold refused_or_depends in (let z : ◌≡◌ {A = ℕ} 0 1 = cc in omega arith)
    go t (Some x) f e = true≢false (sym (accepted_all check (high + 1 - low) low (λ c h k. ap is_accepted (same c x) ∙ f.is)) ∙ t)

-- ---- The walk over the pieces

-- accepted for a known count: accepted where it is not known, and no digit is above the count, or 1
down : (strict : Bool) (c : ℕ) (ps : List Piece) (p : ℕ) → Accepted (pieces_walk strict (Some c) ps p)
    → Accepted (pieces_walk strict None ps p) × (largest_digit ps ≤ max c 1)
unfolding pieces_walk allows_digit largest_digit is_accepted when◌then◌else◌
down strict c [] p a = (refl, omega arith)
down strict c (literal b ∷ ps) p a = down strict c ps (p + 1) a
down strict c (digit d ∷ ps) p a =
    by_test (λ (x : Answer). Accepted x → Accepted (pieces_walk strict None ps (p + 2)) × (max d (largest_digit ps) ≤ max c 1)) (leb d (max c 1)) _ _
    (λ t b. let y = down strict c ps (p + 2) b in (y.0, omega (arith, leb-true d (max c 1) t, y.1))) (λ t b. absurd (true≢false (sym b))) a
down strict c (percent ∷ ps) p a = down strict c ps (p + 2) a
down true c (other b ∷ ps) p a = absurd (true≢false (sym a))
down false c (other b ∷ ps) p a = down false c ps (p + 2) a
down true c (lone ∷ ps) p a = absurd (true≢false (sym a))
down false c (lone ∷ ps) p a = down false c ps (p + 1) a

up : (strict : Bool) (c : ℕ) (ps : List Piece) (p : ℕ) → Accepted (pieces_walk strict None ps p)
    → largest_digit ps ≤ max c 1 → Accepted (pieces_walk strict (Some c) ps p)
unfolding pieces_walk allows_digit largest_digit is_accepted when◌then◌else◌
up strict c [] p a h = refl
up strict c (literal b ∷ ps) p a h = up strict c ps (p + 1) a h
up strict c (digit d ∷ ps) p a h = rw (le-leb d (max c 1) (omega arith)) (up strict c ps (p + 2) a (omega arith))
up strict c (percent ∷ ps) p a h = up strict c ps (p + 2) a h
up true c (other b ∷ ps) p a h = absurd (true≢false (sym a))
up false c (other b ∷ ps) p a h = up false c ps (p + 2) a h
up true c (lone ∷ ps) p a h = absurd (true≢false (sym a))
up false c (lone ∷ ps) p a h = up false c ps (p + 1) a h

-- a walk goes by the largest digit
pub walk_by_largest : (strict : Bool) (ps : List Piece) (p : ℕ)
    → ByLargest (λ c. pieces_walk strict (Some c) ps p) (largest_digit ps)
walk_by_largest strict ps p one c t = (λ a. (down strict c ps p a).1, λ h. up strict c ps p (down strict one ps p t).0 h)

-- what a walk answers: accepted with count 0, or one of its refusals
abbrev Walked : Answer → Type 0
Walked a = (Accepted a → a ≡ accepted 0) × (a.number < 23)

walked : (strict : Bool) (count : Option ℕ) (ps : List Piece) (p : ℕ) → Walked (pieces_walk strict count ps p)
unfolding pieces_walk is_accepted
walked strict count [] p = (λ a. refl, omega arith)
walked strict count (literal b ∷ ps) p = walked strict count ps (p + 1)
walked strict count (digit d ∷ ps) p =
    by_test Walked (allows_digit count d) _ _ (λ t. walked strict count ps (p + 2)) (λ t. (λ a. absurd (true≢false (sym a)), omega arith))
walked strict count (percent ∷ ps) p = walked strict count ps (p + 2)
walked strict count (other b ∷ ps) p = by_test Walked strict _ _ (λ t. (λ a. absurd (true≢false (sym a)), omega arith)) (λ t. walked strict count ps (p + 2))
walked strict count (lone ∷ ps) p = by_test Walked strict _ _ (λ t. (λ a. absurd (true≢false (sym a)), omega arith)) (λ t. walked strict count ps (p + 1))

-- ---- The check of a text

module _ (version : ℕ) (text : List ℕ) where
  text_up : (a b : Answer) → (Accepted a → Accepted b) → Accepted (check_text version text a)
      → Accepted (check_text version text b)
  unfolding check_text after_text after_version after_utf8 is_accepted when◌then◌else◌
  text_up a b f = go (is_version version) (ill_formed text)
    where
      go : (v : Bool) (o : Option ℕ) → Accepted (when v then after_utf8 refused o a else refused 25 0)
          → Accepted (when v then after_utf8 refused o b else refused 25 0)
      go true None t = f t
      go true (Some place) t = t
      go false o t = t

  text_walk : (a : Answer) → Accepted (check_text version text a) → Accepted a × (check_text version text a ≡ a)
  unfolding check_text after_text after_version after_utf8 is_accepted when◌then◌else◌
  text_walk a = go (is_version version) (ill_formed text)
    where
      go : (v : Bool) (o : Option ℕ) → Accepted (when v then after_utf8 refused o a else refused 25 0)
          → Accepted a × ((when v then after_utf8 refused o a else refused 25 0) ≡ a)
      go true None t = (t, refl)
      go true (Some place) t = absurd (true≢false (sym t))
      go false o t = absurd (true≢false (sym t))

  abbrev pub check : ℕ → Answer
  check c = check_replacement version (Some c) text

  abbrev largest : ℕ
  largest = largest_digit (pieces text)

  abbrev strict : Bool
  strict = is_strict (rules_of version)

  -- an answer that accepts has no count
  pub accepted_is : (c : ℕ) → Accepted (check c) ↔ (check c ≡ accepted 0)
  unfolding check_replacement is_accepted
  accepted_is c = (
    λ t. let y = text_walk (pieces_walk strict (Some c) (pieces text) 0) t in y.1 ∙ (walked strict (Some c) (pieces text) 0).0 y.0,
    λ e. ap is_accepted e,
  )

  -- where some count is accepted, any other is exactly where the largest digit is at most it, or 1
  pub by_largest : ByLargest check largest
  unfolding check_replacement
  by_largest one c t = (
    λ a. (down strict c (pieces text) 0 (text_walk _ a).0).1,
    λ h. text_up (pieces_walk strict (Some one) (pieces text) 0) _ (λ a. up strict c (pieces text) 0 (down strict one (pieces text) 0 a).0 h) t,
  )

  -- acceptance grows with the count
  pub grows : (c d : ℕ) → c ≤ d → Accepted (check c) → Accepted (check d)
  grows = larger_accepted check largest by_largest

  unversioned : (count : Option ℕ) → is_version version ≡ false → check_replacement version count text ≡ refused 25 0
  unfolding check_replacement
  unversioned count e = sym (text_unknown_version version text _ e)

  ill_formed_lem : (count : Option ℕ) (place : ℕ) → is_version version ≡ true → ill_formed text ≡ Some place
      → check_replacement version count text ≡ refused 23 place
  unfolding check_replacement
  ill_formed_lem count place v e = sym (text_ill_formed version text _ v place (sym e))

  no_35 : (count : Option ℕ) → (check_replacement version count text).number < 35
  unfolding check_replacement
  no_35 count =
      in_any_case version text _ (λ (a : Answer). a.number < 35) (omega arith) (λ place h. omega arith) (omega (arith, (walked strict count (pieces text) 0).1))

  module _ (low high : ℕ) (upwards : low ≤ high) where
    -- the check with its tests of the version and of the range is the answer for the range
    pub in_range : check_ranged version (from_to low high) text ≡ for_range check low high
    unfolding check_ranged
    in_range =
        by_test (λ (r : Ranged). r ≡ for_range check low high) (not (is_version version)) _ _
        (λ t.
        let e = not-true (is_version version) t in
        sym ((none_of check low high upwards (refused 25 0)).1 ((λ c h k. ap is_accepted (unversioned (Some c) e) ∙ never_zero), sym (unversioned (Some low) e))))
        (λ t. if_false (ltb high low) _ _ (le-ltb high low upwards))
      where
        never_zero : is_accepted (refused 25 0) ≡ false
        never_zero = unfold is_accepted in refl

-- ---- What is promised of the check of a range

module _ (version low high : ℕ) (text : List ℕ) where
  abbrev pub ranged : Ranged
  ranged = check_ranged version (from_to low high) text

  abbrev pub AcceptedAt : ℕ → Type 0
  AcceptedAt c = check_replacement version (Some c) text ≡ accepted 0

  abbrev pub InRange : ℕ → Type 0
  InRange c = (low ≤ c) × (c ≤ high)

  module _ (upwards : low ≤ high) where
    -- accepted for every count: accepted for each in the range
    pub accepted_for_every : (ranged ≡ for_every) ↔ ((c : ℕ) → InRange c → AcceptedAt c)
    accepted_for_every = (
      λ e c i. (accepted_is version text c).0 ((every (check version text) low high).0 (sym (in_range version text low high upwards) ∙ e) c i.0 i.1),
      λ f. in_range version text low high upwards ∙ (every (check version text) low high).1 (λ c h k. (accepted_is version text c).1 (f c (h, k))),
    )

    -- refused for every one, and the refusal is that of the lowest
    pub refused_for_every : (a : Answer)
        → (ranged ≡ for_none a) ↔ (((c : ℕ) → InRange c → AcceptedAt c → ⊥) × (a ≡ check_replacement version (Some low) text))
    refused_for_every a = (
      λ e.
          let y = (none_of (check version text) low high upwards a).0 (sym (in_range version text low high upwards) ∙ e) in
          (λ c i ok. never_both (check version text c) ((accepted_is version text c).1 ok) (y.0 c i.0 i.1), y.1),
      λ y.
          in_range version text low high upwards
          ∙ (none_of (check version text) low high upwards a).1
          ((λ c h k. ⊎_elim (λ t. absurd (y.0 c (h, k) ((accepted_is version text c).0 t))) (λ f. f) (either (check version text c))), y.1),
    )

    -- dependent on it: the lowest is refused, and a count of the range is accepted exactly where it is m or more
    pub dependent : (m : ℕ)
        → (ranged ≡ depends m) ↔ ((low < m) × (m ≤ high) × ((c : ℕ) → InRange c → AcceptedAt c ↔ (m ≤ c)))
    dependent m = (
      λ e.
          let y = (depends_on (check version text) low high upwards (grows version text) m).0 (sym (in_range version text low high upwards) ∙ e) in
          (y.0, y.1, λ c i. (λ ok. (y.2 c i.0 i.1).0 ((accepted_is version text c).1 ok), λ h. (accepted_is version text c).0 ((y.2 c i.0 i.1).1 h))),
      λ y.
          in_range version text low high upwards
          ∙ (depends_on (check version text) low high upwards (grows version text) m).1
          (y.0, y.1, λ c h k. (λ t. (y.2 c (h, k)).0 ((accepted_is version text c).0 t), λ l. (accepted_is version text c).1 ((y.2 c (h, k)).1 l))),
    )

    -- so the answer says of each count of the range whether it is accepted
    pub accepts_exactly : (c : ℕ) → InRange c → (accepts ranged c ≡ true) ↔ AcceptedAt c
    unfolding accepts
    accepts_exactly c i = go ranged refl
      where
        go : (r : Ranged) → ranged ≡ r → (accepts ranged c ≡ true) ↔ AcceptedAt c
        go for_every e = (λ t. accepted_for_every.0 e c i, λ ok. ap (λ x. accepts x c) e)
        go (for_none a) e = (λ t. absurd (true≢false (sym t ∙ ap (λ x. accepts x c) e)), λ ok. absurd (((refused_for_every a).0 e).0 c i ok))
        go (depends m) e = (
          λ t. (((dependent m).0 e).2 c i).1 (leb-true m c (sym (ap (λ x. accepts x c) e) ∙ t)),
          λ ok. ap (λ x. accepts x c) e ∙ le-leb m c ((((dependent m).0 e).2 c i).0 ok),
        )

    -- one walk for the lowest, one for the highest, and the largest digit
    pub by_two_walks : ranged ≡ by_ends (check_replacement version (Some low) text) (check_replacement version (Some high) text) (largest_digit (pieces text))
    by_two_walks = in_range version text low high upwards ∙ ends (check version text) (largest_digit (pieces text)) (by_largest version text) low high upwards

    -- the smallest count is the largest digit, and at least 2
    pub smallest_is_largest : (m : ℕ) → ranged ≡ depends m → (m ≡ largest_digit (pieces text)) × (2 ≤ m)
    smallest_is_largest m e =
        smallest_largest (check version text) (largest_digit (pieces text)) (by_largest version text) low high upwards m (sym (in_range version text low high upwards) ∙ e)

    -- 23 for the text, after 25; and never 35
    pub not_text : (place : ℕ) → is_version version ≡ true → ill_formed text ≡ Some place
        → ranged ≡ for_none (refused 23 place)
    not_text place v e =
        (refused_for_every (refused 23 place)).1 (
          (λ c i ok. let z : ◌≡◌ {A = ℕ} 23 0 = ap (λ (a : Answer). a.number) (sym (ill_formed_lem version text (Some c) place v e) ∙ ok) in omega arith),
          sym (ill_formed_lem version text (Some low) place v e),
        )

    pub never_35 : (offset : ℕ) → ranged ≡ for_none (refused 35 offset) → ⊥
    never_35 offset e =
        let n : (check_replacement version (Some low) text).number ≡ 35 = ap (λ (a : Answer). a.number) (sym ((refused_for_every (refused 35 offset)).0 e).1) in
        omega (arith, no_35 version text (Some low))

  -- 35 where the lowest exceeds the highest, before the text is looked at
  pub downwards : is_version version ≡ true → high < low → ranged ≡ for_none (refused 35 0)
  unfolding check_ranged when◌then◌else◌
  downwards v h = rw (v, lt-ltb high low h)

-- 25 comes first
pub no_version : (version : ℕ) (counts : Counts) (text : List ℕ) → is_version version ≡ false
    → check_ranged version counts text ≡ for_none (refused 25 0)
unfolding check_ranged alone is_accepted when◌then◌else◌
no_version version unknown text e = rw (unversioned version text None e)
no_version version (from_to low high) text e = rw e

-- both ends equal: the check of document 01
pub one_count : (version count : ℕ) (text : List ℕ)
    → check_ranged version (from_to count count) text ≡ alone (check_replacement version (Some count) text)
one_count version count text = in_range version text count count (omega arith) ∙ single (check version text) count

-- none known: the check of document 01
pub none_known : (version : ℕ) (text : List ℕ)
    → check_ranged version unknown text ≡ alone (check_replacement version None text)
unfolding check_ranged
none_known version text = refl
