-- Texts that share bytes: the walk passes a beginning that is UTF-8, and what stands between two ASCII bytes, the first
-- and the last of a UTF-8 text, is UTF-8.
-- Assumes nothing.
use Rattle.std.specs.Prelude.{Option, None, Some}
use mathlib.Core.Path.{◌≡◌, refl, sym, ap, ◌∙◌}
use mathlib.Core.Logic.{⊎_elim}
use mathlib.Core.Bool.{Bool, true, false, ◌&&◌}
use mathlib.Core.List.{List, [], ◌∷◌, ◌++◌}
use Prim.Native.Nat.{ℕ, zero, suc, ◌+◌, ◌-◌, ◌<◌, ◌≤◌}
use native.Mathlib.Nat.{add-zero}
use native.Mathlib.Omega.{arith}
use lib.ListN.{length, drop, length-append, length-drop, get_or-append}
use lib.Seq.{length-take-le, get_or-take, get_or-drop}
use lib.Dec.{ltb}
use borrow.Author.Tests.{lt-ltb}
use Rattle.luck_text.specs.Bytes.{byte_at, part}
use Rattle.luck_text.specs.Walk.{walk_from}
use Rattle.luck_text.proofs.Cases.{and_left, and_right, both_true, order}
use Rattle.luck_text.proofs.Walk.{walk_end}
use Rattle.luck_utf8.specs.Utf8.{Range, rfc3629, in_range, tails_of, follow, sequence, sequence_at}
use Rattle.luck_utf8.specs.Utf8.{none_ill_formed, ill_formed}
use Rattle.luck_utf8.proofs.Sequences.{sequence_none, sequence_refused, sequence_accepted, sequence_ascii}
use Rattle.luck_utf8.proofs.Sequences.{Formed, formed, walk_ill_formed, walk_sequence}

abbrev pub walk_at : List ℕ → ℕ → Option ℕ
walk_at text p = walk_from (sequence_at text) none_ill_formed (length text) p tt

some_none : (p : ℕ) → Some p ≡ None → ⊥
some_none p e = let z : ◌≡◌ {A = ℕ} 0 1 = cc in omega arith

-- a body that has the text's bytes from a place on, up to an end
module _ (text body : List ℕ) (from end : ℕ) (inside : end ≤ length body)
    (same : (q : ℕ) → q < end → byte_at body q ≡ byte_at text (q + from)) where
  follow_same : (tails : List Range) (q : ℕ) → q + length tails ≤ end
      → follow text (q + from) tails ≡ true → follow body q tails ≡ true
  unfolding follow
  follow_same [] q h f = refl
  follow_same (r ∷ ranges) q h f =
      let next : q + from + 1 ≡ q + 1 + from = omega arith in
      let here = and_right (ltb (q + from) (length text)) _ (and_left _ (follow text (q + from + 1) ranges) f) in
      let rest = and_right (ltb (q + from) (length text) && in_range r (byte_at text (q + from))) _ f in
      let there = lt-ltb q (length body) (omega arith) in
      both_true _ _ (both_true _ _ there (ap (in_range r) (same q (omega arith)) ∙ here))
      (follow_same ranges (q + 1) (omega arith) (rw next at rest))

  module _ (q w : ℕ) (e : w ≡ sequence text (q + from)) (f : w ≡ 0 → ⊥) (fits : q + w ≤ end) where
    by_follow : (tails : List Range) → q + from < length text → tails_of rfc3629 (byte_at text (q + from)) ≡ Some tails
        → (t : Bool) → follow text (q + from + 1) tails ≡ t → w ≡ sequence body q
    by_follow tails h r true s =
        let next : q + from + 1 ≡ q + 1 + from = omega arith in
        let wide : w ≡ suc (length tails) = e ∙ sequence_accepted text (q + from) tails h r s in
        let on = follow_same tails (q + 1) (omega arith) (rw next at s) in
        wide ∙ sym (sequence_accepted body q tails (omega arith) (ap (tails_of rfc3629) (same q (omega arith)) ∙ r) on)
    by_follow tails h r false s = absurd (f (e ∙ sequence_refused text (q + from) tails h r s))

    by_row : q + from < length text → (o : Option (List Range)) → tails_of rfc3629 (byte_at text (q + from)) ≡ o
        → w ≡ sequence body q
    by_row h None r = absurd (f (e ∙ sequence_none text (q + from) h r))
    by_row h (Some tails) r = by_follow tails h r (follow text (q + from + 1) tails) refl

    sequence_same : w ≡ sequence body q
    sequence_same =
        let i = (formed text (q + from) w e f).inside in
        by_row (omega arith) (tails_of rfc3629 (byte_at text (q + from))) refl

  -- where no sequence of the text goes past the end, and all of them are well-formed, the body's walk comes to the end
  module _ (within : end + from ≤ length text)
      (stops : (q w : ℕ) → q < end → Formed text (q + from) w → q + w ≤ end) where
    turn : (q : ℕ) → walk_at text (q + from) ≡ None
        → ((w : ℕ) → q + suc w ≤ end → walk_at text (q + suc w + from) ≡ None
        → walk_at body (q + suc w) ≡ walk_at body end)
        → q < end → (w : ℕ) → w ≡ sequence text (q + from) → walk_at body q ≡ walk_at body end
    turn q e on l zero s =
        absurd (some_none (q + from) (sym (walk_ill_formed text (q + from) 0 s (omega arith) refl) ∙ e))
    turn q e on l (suc w) s =
        let there = formed text (q + from) (suc w) s (λ z. omega arith) in
        let fits = stops q (suc w) l there in
        let next : q + from + suc w ≡ q + suc w + from = omega arith in
        let past = walk_sequence text (q + from) (suc w) s (λ z. omega arith) there.inside in
        let here = sequence_same q (suc w) s (λ z. omega arith) fits in
        walk_sequence body q (suc w) here (λ z. omega arith) (omega arith)
        ∙ on w fits (sym (past ∙ ap (walk_at text) next) ∙ e)

    to_end : (n q : ℕ) → end ≤ q + n → q ≤ end → walk_at text (q + from) ≡ None → walk_at body q ≡ walk_at body end
    to_end zero q h l e = let s : q ≡ end = omega arith in ap (walk_at body) s
    to_end (suc n) q h l e =
        ⊎_elim (λ g. turn q e (λ w f rest. to_end n (q + suc w) (omega arith) f rest) g (sequence text (q + from)) refl)
        (λ g. let s : q ≡ end = omega arith in ap (walk_at body) s) (order q end)

pub at_end : (text : List ℕ) → walk_at text (length text) ≡ None
unfolding none_ill_formed
at_end text = walk_end (sequence_at text) none_ill_formed (length text) (length text) tt (omega arith)

-- what follows a text that is UTF-8 is walked as from there
pub walk_past : (before rest : List ℕ) → ill_formed before ≡ None
    → walk_at (before ++ rest) 0 ≡ walk_at (before ++ rest) (length before)
unfolding ill_formed
walk_past before rest e =
    to_end before (before ++ rest) 0 (length before) (omega (arith, length-append before rest))
    (λ q h. rw (add-zero q) (get_or-append before rest 0 q h)) (omega arith)
    (λ q w h f. rw (add-zero q) at f.inside) (length before) 0 (omega arith) (omega arith) e

module _ (text : List ℕ) (two : 2 ≤ length text) where
  abbrev body : List ℕ
  body = part text 1 (length text - 1)

  long : length text ≡ length body + 2
  long = omega (arith, length-take-le (length text - 1 - 1) (drop 1 text) (omega (arith, length-drop 1 text)))

  same : (q : ℕ) → q < length body → byte_at body q ≡ byte_at text (q + 1)
  same q h =
      let here : q < length text - 1 - 1 = omega (arith, long) in
      let on : 1 + q ≡ q + 1 = omega arith in
      get_or-take (length text - 1 - 1) (drop 1 text) q 0 here ∙ get_or-drop 1 text q 0 ∙ ap (byte_at text) on

  -- a sequence ends before the last byte, which is ASCII
  before_last : byte_at text (length text - 1) < 0x80 → (q w : ℕ) → q < length body → Formed text (q + 1) w
      → q + w ≤ length body
  before_last low q w h f = ⊎_elim (λ over. absurd (crosses over)) (λ l. l) (order (length body) (q + w))
    where
      crosses : length body < q + w → ⊥
      crosses over =
          let k : q + 1 + (length body - q) ≡ length text - 1 = omega (arith, long) in
          let high = f.more (length body - q) (omega arith) (omega arith) in
          omega (arith, rw k at high)

  pub between_ascii : byte_at text 0 < 0x80 → byte_at text (length text - 1) < 0x80 → None ≡ ill_formed text → None ≡ ill_formed body
  unfolding ill_formed
  between_ascii first last e =
      let one : 1 ≡ sequence text 0 = sym (sequence_ascii text 0 (omega arith) first) in
      let past = sym (walk_sequence text 0 1 one (λ z. omega arith) (omega arith)) ∙ sym e in
      let whole = to_end text body 1 (length body) (omega arith) same (omega (arith, long)) (before_last last) in
      sym (whole (length body) 0 (omega arith) (omega arith) past ∙ at_end body)
