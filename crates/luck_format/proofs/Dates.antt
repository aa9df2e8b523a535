-- Laws of dates: a turn of the walk over the conversions.
-- Assumes nothing.
use Prim.Native.Nat.{ℕ, ◌+◌, ◌≤◌, ◌<◌}
use native.Mathlib.Omega.{arith}
use mathlib.Core.Path.{◌≡◌, refl, sym, ◌∙◌}
use mathlib.Core.Logic.{⊎_elim}
use mathlib.Core.Bool.{Bool, true, false, ◌&&◌, true≢false}
use mathlib.Core.List.{List}
use lib.ListN.{length, get_or-eq_default}
use borrow.Author.Tests.{ne_eqb, lt-leb, le-leb}
use Rattle.luck_text.specs.Bytes.{when◌then◌else◌, byte_at, among}
use Rattle.luck_text.specs.Walk.{walk_from, stop, goes}
use Rattle.luck_text.proofs.Walk.{walk_end, walk_stop, walk_goes}
use Rattle.luck_text.proofs.Cases.{by_test, if_true, if_false, order}
use Rattle.luck_answer.specs.Answer.{Answer, accepted, refused}
use Rattle.std.specs.Bool.{then_some}
use Rattle.std.specs.Option.{IfSome, unwrap_or}
use Rattle.luck_format.specs.Date.{second_bytes, is_pair, conversion_width, single_width, pair_width, date_turn, date_end}
use Rattle.luck_format.specs.Date.{conversions_walk}

module _ (options : Bool) (text : List ℕ) where
  abbrev pub on : ℕ → Answer
  on p = walk_from (date_turn options text) date_end (length text) p tt

  pub start : on 0 ≡ conversions_walk options text
  unfolding conversions_walk
  start = refl

  pub at_end : (p : ℕ) → length text ≤ p → accepted 0 ≡ on p
  unfolding date_end
  at_end p h = sym (walk_end (date_turn options text) date_end (length text) p tt h)

  -- at p stands a byte, and the walk from there is the whole answer
  pub record Here (p : ℕ) (whole : Answer) : Type 0 where
    pub there : p < length text
    pub walked : on p ≡ whole

module _ {options : Bool} {text : List ℕ} {p : ℕ} {whole : Answer} (here : Here options text p whole) where
  stops : (a : Answer) → date_turn options text p tt ≡ stop a → a ≡ whole
  stops a e = sym (walk_stop (date_turn options text) date_end (length text) p tt a here.there e) ∙ here.walked

  passes : (w : ℕ) → 0 < w → p + w ≤ length text → date_turn options text p tt ≡ goes w tt → on options text (p + w) ≡ whole
  passes w g i e = sym (walk_goes (date_turn options text) date_end (length text) p tt w tt g i e) ∙ here.walked

  pub passes_byte : (byte_at text p ≡ 37 → ⊥) → on options text (p + 1) ≡ whole
  unfolding date_turn when◌then◌else◌
  passes_byte n = passes 1 (omega arith) (omega arith) (rw (ne_eqb (byte_at text p) 37 n))

  module _ (e : byte_at text p ≡ 37) where
    pub lone_strict : length text ≤ p + 1 → options ≡ true → refused 19 p ≡ whole
    unfolding date_turn when◌then◌else◌
    lone_strict l t = stops _ (rw (e, le-leb (length text) (p + 1) l, t))

    pub lone_lenient : length text ≤ p + 1 → options ≡ false → accepted 0 ≡ whole
    unfolding date_turn when◌then◌else◌
    lone_lenient l t = at_end options text (p + 1) l ∙ passes 1 (omega arith) (omega arith) (rw (e, le-leb (length text) (p + 1) l, t))

    pub no_conversion : p + 1 < length text → conversion_width options text p ≡ 0 → refused 22 (p + 1) ≡ whole
    unfolding date_turn when◌then◌else◌
    no_conversion l w = stops _ (rw (e, lt-leb (length text) (p + 1) l, w))

    pub passes_conversion : p + 1 < length text → (w : ℕ) → w ≡ conversion_width options text p → 0 < w → p + w ≤ length text
        → on options text (p + w) ≡ whole
    unfolding date_turn when◌then◌else◌
    passes_conversion l w f g i = passes w g i (rw (e, lt-leb (length text) (p + 1) l, ← f, ne_eqb w 0 (λ z. absurd (omega arith))))

-- ---- The width of a conversion

-- past the end stands 0, which is none of the second bytes
none_second : (first b : ℕ) → b ≡ 0 → among b (second_bytes first) ≡ false
unfolding second_bytes among
none_second first b e =
    rw e
    (by_test (λ l. among 0 l ≡ false) _ _ _ (λ _. refl) (λ _. by_test (λ l. among 0 l ≡ false) _ _ _ (λ _. refl) (λ _. by_test (λ l. among 0 l ≡ false) _ _ _ (λ _. refl) (λ _. refl))))

-- so a second byte is there
pub second_in : (first : ℕ) (text : List ℕ) (p : ℕ) (t : Bool) → t ≡ among (byte_at text (p + 2)) (second_bytes first) → IfSome (then_some t 3) (λ width. (0 < width) × (p + width ≤ length text))
second_in first text p false e = tt
second_in first text p true e = (omega arith, ⊎_elim (λ h. omega arith) (λ g. absurd (true≢false (e ∙ none_second first (byte_at text (p + 2)) (get_or-eq_default text 0 g)))) (order (p + 2) (length text)))

module _ (options : Bool) (text : List ℕ) (p : ℕ) where
  pub by_pair : (options && is_pair (byte_at text (p + 1))) ≡ true → pair_width text (p + 2) (byte_at text (p + 1)) ≡ conversion_width options text p
  unfolding conversion_width
  by_pair e = sym (if_true _ _ _ e)

  pub by_single : (options && is_pair (byte_at text (p + 1))) ≡ false → single_width options (byte_at text (p + 1)) ≡ conversion_width options text p
  unfolding conversion_width
  by_single e = sym (if_false _ _ _ e)

-- a width where a test holds, 0 where not
pub width_by : (width : ℕ) (t : Bool) → unwrap_or (then_some t width) 0 ≡ (when t then width else 0)
unfolding when◌then◌else◌
width_by width true = refl
width_by width false = refl
