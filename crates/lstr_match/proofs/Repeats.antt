-- What a repeat tries, a place at a time: at each the rest of the pattern at a new level, and where that has failed what is left.
-- Assumes nothing.
use Rattle.std.specs.Prelude.{Option, None, Some, IsTrue, IfSome, IsSomeAnd, ◌↔◌}
use Prim.Native.Nat.{ℕ, zero, suc, ◌+◌, ◌-◌, ◌≤◌, ◌<◌}
use native.Mathlib.Omega.{arith}
use mathlib.Core.Path.{◌≡◌, refl, sym, ap, subst, ◌∙◌}
use mathlib.Core.Bool.{Bool, true, false}
use mathlib.Core.List.{List}
use lib.ListN.{length}
use lib.Dec.{ltb}
use borrow.Author.Tests.{lt-ltb, le-ltb}
use Rattle.luck_text.specs.Bytes.{when◌then◌else◌}
use Rattle.luck_pattern.specs.Items.{Single, optional, star, plus, minus, items}
use Rattle.lstr_item.specs.Match.{Capture, capture_to_close, Outcome, matched, failed, stopped, Rest, due, new_level, or_else, Reach, reached, spent, reach, longest_first, max_expand, fits_at, min_expand, expand, match}
use Rattle.lstr_item.specs.Inner.{SingleIn}
use Rattle.lstr_item.specs.Ahead.{Sure, FailsHere, KnownFailsHere}
use Rattle.lstr_item.specs.declared.ahead.Ahead.{Ahead}
use Rattle.lstr_item.specs.declared.capture.Pair.{Pair}
use Rattle.lstr_match.specs.Inner.{ended_as, outcome_of}
use Rattle.lstr_match.specs.declared.outcome.Attempt.{Attempt}
use Rattle.lstr_match.specs.declared.outcome.Ending.{Ending}
use Rattle.lstr_match.specs.declared.outcome.Ending.TheVariants as ending

-- ---- An attempt, and what is tried after it

module _ (r : Attempt) (kept : List Pair) (o : Outcome) (w : outcome_of r kept ≡ o) where
  pub has_failed : r.ending ≡ ending.Failed → failed r.steps ≡ o
  has_failed e = ap (λ (x : Ending). ended_as x kept r.steps) (sym e) ∙ w

  -- what is no failure is not tried again
  final_as : (x : Ending) → (x ≡ ending.Failed → ⊥) → (k : ℕ → Outcome) → or_else (ended_as x kept r.steps) k ≡ ended_as x kept r.steps
  unfolding or_else
  final_as (ending.Matched e n) h k = refl
  final_as ending.Failed h k = absurd (h refl)
  final_as (ending.Stopped s) h k = refl

  pub is_final : (r.ending ≡ ending.Failed → ⊥) → (k : ℕ → Outcome) → outcome_of r kept ≡ or_else o k
  is_final h k = sym (final_as r.ending h k) ∙ ap (λ x. or_else x k) w

-- a failure is not the last word
pub goes_on : (o : Outcome) (k : ℕ → Outcome) (v : ℕ) → failed v ≡ o → k v ≡ or_else o k
unfolding or_else
goes_on o k v e = ap (λ x. or_else x k) e

nothing_else : (o : Outcome) → or_else o (λ v. failed v) ≡ o
unfolding or_else
nothing_else (matched e cs u) = refl
nothing_else (failed u) = refl
nothing_else (stopped number kind u) = refl

-- ---- max_expand's second loop

-- the n places from s on, the farthest first
abbrev pub downwards : Rest → ℕ → ℕ → List Capture → ℕ → ℕ → Outcome
downwards rest s l cs zero u = failed u
downwards rest s l cs (suc n) u = longest_first rest n s l cs u

module _ (rest : Rest) (s l : ℕ) (cs : List Capture) where
  one_of : (n u : ℕ) → or_else (new_level l u (λ m. rest (s + n) m cs u)) (λ v. downwards rest s l cs n v) ≡ longest_first rest n s l cs u
  unfolding longest_first
  one_of zero u =
      let e : s + 0 ≡ s = omega arith in
      nothing_else (new_level l u (λ m. rest (s + 0) m cs u)) ∙ ap (λ (y : ℕ). new_level l u (λ m. rest y m cs u)) e
  one_of (suc n) u = refl

  -- with `bound` the place above those that are left
  module _ (bound i u : ℕ) (b : bound ≡ i + 1) (h : s ≤ i) where
    pub down : or_else (new_level l u (λ m. rest i m cs u)) (λ v. downwards rest s l cs (i - s) v) ≡ downwards rest s l cs (bound - s) u
    down =
        let e : bound - s ≡ suc (i - s) = omega arith in
        let f : i ≡ s + (i - s) = omega arith in
        ap (λ (y : ℕ). or_else (new_level l u (λ m. rest y m cs u)) (λ v. downwards rest s l cs (i - s) v)) f
        ∙ one_of (i - s) u ∙ ap (λ (n : ℕ). downwards rest s l cs n u) (sym e)

    pub further_down : (v : ℕ) → failed v ≡ new_level l u (λ m. rest i m cs u) → downwards rest s l cs (i - s) v ≡ downwards rest s l cs (bound - s) u
    further_down v w = goes_on _ (λ v. downwards rest s l cs (i - s) v) v w ∙ down

  pub none_left : (n u : ℕ) → n ≡ 0 → failed u ≡ downwards rest s l cs n u
  none_left n u e = rw e

  down_from : (e u : ℕ) → s ≤ e → downwards rest s l cs (e + 1 - s) u ≡ max_expand (reached e u) rest s l cs
  unfolding max_expand
  down_from e u h = let f : e + 1 - s ≡ suc (e - s) = omega arith in ap (λ (n : ℕ). downwards rest s l cs n u) f

  pub all_down : (e u : ℕ) (t : Reach) → s ≤ e → reached e u ≡ t → downwards rest s l cs (e + 1 - s) u ≡ max_expand t rest s l cs
  all_down e u t h w = down_from e u h ∙ ap (λ x. max_expand x rest s l cs) w

  pub none_reached : (u : ℕ) (t : Reach) → spent u ≡ t → stopped 27 0 u ≡ max_expand t rest s l cs
  unfolding max_expand
  none_reached u t w = ap (λ x. max_expand x rest s l cs) w

-- `?`, `*` and `+`, of a single that has fitted at s
module _ (in_class : ℕ → ℕ → Bool) (sub : List ℕ) (budget : ℕ) (x : Single) (rest : Rest) (s l : ℕ) (cs : List Capture) (u : ℕ) where
  pub optional_on : or_else (new_level l u (λ m. rest (s + 1) m cs u)) (λ v. rest s l cs v) ≡ expand in_class sub budget x optional rest s l cs u
  unfolding expand
  optional_on = refl

  pub optional_fails : (v : ℕ) → failed v ≡ new_level l u (λ m. rest (s + 1) m cs u) → rest s l cs v ≡ expand in_class sub budget x optional rest s l cs u
  optional_fails v w = goes_on _ (λ v. rest s l cs v) v w ∙ optional_on

  abbrev reach_on : Reach
  reach_on = reach in_class sub budget x (length sub - (s + 1)) (s + 1) u

  pub star_on : max_expand reach_on rest s l cs ≡ expand in_class sub budget x star rest s l cs u
  unfolding expand
  star_on = refl

  pub plus_on : max_expand reach_on rest (s + 1) l cs ≡ expand in_class sub budget x plus rest s l cs u
  unfolding expand
  plus_on = refl

-- ---- min_expand

module _ (in_class : ℕ → ℕ → Bool) (sub : List ℕ) (budget : ℕ) (x : Single) (rest : Rest) (l : ℕ) (cs : List Capture) where
  -- place i and those above it, each after its test
  abbrev pub from : ℕ → ℕ → Outcome
  from i u = or_else (new_level l u (λ m. rest i m cs u)) (λ v. min_expand in_class sub budget x rest (length sub - i) i l cs v)

  -- and once the rest has failed at i: the byte at s, the first, has fitted before
  abbrev pub behind : ℕ → ℕ → ℕ → Outcome
  behind s i v =
      let tested = min_expand in_class sub budget x rest (length sub - i) i l cs v in
      when ltb s i then tested else from (i + 1) v

  abbrev pub upwards : ℕ → ℕ → ℕ → Outcome
  upwards s i u = or_else (new_level l u (λ m. rest i m cs u)) (λ v. behind s i v)

  pub rest_failed : (s i u v : ℕ) → failed v ≡ new_level l u (λ m. rest i m cs u) → (o : Outcome) → upwards s i u ≡ o → behind s i v ≡ o
  rest_failed s i u v w o e = goes_on _ (λ v. behind s i v) v w ∙ e

  pub all_up : (s u : ℕ) → upwards s s u ≡ expand in_class sub budget x minus rest s l cs u
  unfolding expand when◌then◌else◌
  all_up s u = rw (le-ltb s s (omega arith))

  -- above s there is a test at every place
  one_up : (s i u : ℕ) → s < i → upwards s i u ≡ from i u
  unfolding when◌then◌else◌
  one_up s i u h = rw (lt-ltb s i h)

  -- the rest has failed at i
  module _ (s i v : ℕ) (o : Outcome) (w : behind s i v ≡ o) where
    pub up_first : s ≤ i → i ≤ s → upwards s (i + 1) v ≡ o
    unfolding when◌then◌else◌
    up_first g h = one_up s (i + 1) v (omega arith) ∙ subst (λ b. (let tested = min_expand in_class sub budget x rest (length sub - i) i l cs v in when b then tested else from (i + 1) v) ≡ o) (le-ltb s i h) w

    module _ (h : s < i) where
      tested : min_expand in_class sub budget x rest (length sub - i) i l cs v ≡ o
      unfolding when◌then◌else◌
      tested = subst (λ b. (let tested = min_expand in_class sub budget x rest (length sub - i) i l cs v in when b then tested else from (i + 1) v) ≡ o) (lt-ltb s i h) w

      test_spent : (n : ℕ) → budget ≤ v → stopped 27 0 v ≡ min_expand in_class sub budget x rest n i l cs v
      unfolding min_expand due when◌then◌else◌
      test_spent zero g = rw (le-ltb v budget g)
      test_spent (suc n) g = rw (le-ltb v budget g)

      test_fails : (n : ℕ) → v < budget → fits_at in_class sub x i ≡ false → failed (v + 1) ≡ min_expand in_class sub budget x rest n i l cs v
      unfolding min_expand due when◌then◌else◌
      test_fails zero g f = rw (lt-ltb v budget g)
      test_fails (suc n) g f = rw (lt-ltb v budget g, f)

      test_fits : v < budget → fits_at in_class sub x i ≡ true → i < length sub → from (i + 1) (v + 1) ≡ min_expand in_class sub budget x rest (length sub - i) i l cs v
      unfolding min_expand due when◌then◌else◌
      test_fits g f k =
          let z : length sub - i ≡ suc (length sub - (i + 1)) = omega arith in
          rw (z, lt-ltb v budget g, f)

      pub up_spent : budget ≤ v → stopped 27 0 v ≡ o
      up_spent g = test_spent (length sub - i) g ∙ tested

      pub up_fails : v < budget → fits_at in_class sub x i ≡ false → failed (v + 1) ≡ o
      up_fails g f = test_fails (length sub - i) g f ∙ tested

      pub up_next : v < budget → fits_at in_class sub x i ≡ true → i < length sub → upwards s (i + 1) (v + 1) ≡ o
      up_next g f k = one_up s (i + 1) (v + 1) (omega arith) ∙ test_fits g f k ∙ tested

-- ---- A place where the rest surely fails

pub none_open : (b : Bool) (cs : List Capture) (n : ℕ) → IsTrue b ↔ (capture_to_close cs ≡ Some n) → b ≡ true → capture_to_close cs ≡ None → ⊥
none_open b cs n w h f = let g = w.0 h in let z : ◌≡◌ {A = ℕ} 0 1 = cc in absurd (omega arith)

module _ (pat : List ℕ) (next l : ℕ) (is_open : Bool) where
  abbrev pub SureIf : Option Ahead → Type 0
  SureIf first = IfSome first (λ a. (count : ℕ) → Sure pat next l count is_open a)

  pub sure_single : (first : Option Ahead) → SureIf first → IfSome first (λ a. SingleIn pat a.at a.suffix)
  sure_single None h = h
  sure_single (Some a) h = (h 0).single

  pub fails_ahead : (in_class : ℕ → ℕ → Bool) (sub : List ℕ) (budget s : ℕ) (cs : List Capture) (u v : ℕ) (first : Option Ahead)
      → (is_open ≡ true → capture_to_close cs ≡ None → ⊥) → SureIf first → IsSomeAnd first (λ a. (v ≡ u + a.steps) × FailsHere in_class sub pat a s budget u)
      → failed v ≡ new_level l u (λ m. match in_class sub budget (items pat next) s m cs u)
  fails_ahead in_class sub budget s cs u v None o sure h = absurd h
  fails_ahead in_class sub budget s cs u v (Some a) o sure h =
      let f = h.1 in
      ap failed h.0 ∙ (sure (length cs)).fails in_class sub budget s cs u (omega arith) o f.left f.unfit

  -- the same from what `steps_failed` promises
  pub known_fails_ahead : (in_class : ℕ → ℕ → Bool) (sub : List ℕ) (budget s : ℕ) (cs : List Capture) (u v : ℕ) (first : Option Ahead)
      → (is_open ≡ true → capture_to_close cs ≡ None → ⊥) → SureIf first → IsSomeAnd first (λ a. (v ≡ u + a.steps) × KnownFailsHere in_class sub pat a s budget u)
      → failed v ≡ new_level l u (λ m. match in_class sub budget (items pat next) s m cs u)
  known_fails_ahead in_class sub budget s cs u v None o sure h = absurd h
  known_fails_ahead in_class sub budget s cs u v (Some a) o sure h = fails_ahead in_class sub budget s cs u v (Some a) o sure (h.0, h.1.here)
