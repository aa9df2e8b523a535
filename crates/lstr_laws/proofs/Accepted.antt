-- A pattern that the check accepts with its count of captures is read into items that are well formed, and so is what follows a leading `^`. For that the
-- check is followed from each item to the next, also with its test of ranges, where the item has no reversed range.
-- Assumes nothing.
use Rattle.std.specs.Prelude.{Option, None, Some}
use Prim.Native.Nat.{ℕ, zero, suc, ◌+◌, ◌-◌, ◌≤◌, ◌<◌}
use native.Mathlib.Omega.{arith}
use mathlib.Core.Path.{◌≡◌, refl, sym, ap, subst, ◌∙◌}
use mathlib.Core.Bool.{Bool, true, false}
use mathlib.Core.List.{List, [], ◌∷◌, ◌++◌}
use lib.ListN.{length, set}
use lib.Dec.{eqb, leb, ltb}
use borrow.Author.Tests.{ltb-true, leb-true, leb-false, eqb-true}
use Rattle.luck_text.specs.Bytes.{when◌then◌else◌, byte_at}
use Rattle.luck_text.specs.Walk.{Turn, stop, goes, walk_from}
use Rattle.luck_utf8.specs.Utf8.{ill_formed}
use Rattle.luck_token.specs.Version.{is_version}
use Rattle.luck_text.proofs.Cases.{by_test, present, and_right}
use Rattle.luck_text.proofs.Walk.{walk_end, walk_stop, walk_goes}
use Rattle.luck_token.specs.Text.{after_version, after_utf8, after_text}
use Rattle.luck_answer.specs.Answer.{Answer, accepted, refused, refused_with, check_text}
use Rattle.luck_pattern.specs.Captures.{latest_open, close_at, close_latest, is_closed, all_closed}
use Rattle.luck_pattern.specs.Reading.{Head, at_open, at_close, at_percent, at_set, at_other, head_of, Escape, esc_digit, esc_balance, esc_frontier, esc_other, esc_end, escape_at, SetEnd, closes_at, cut_at, unclosed, first_member, set_end}
use Rattle.luck_pattern.specs.Pattern.{is_empty_set, Scanned as Found, past, fault, closed_as, reversed_of, set_as, set_read, escape_as, escape_read, onward, after_close, head_turn, pattern_turn, pattern_end, pattern_walk, check_pattern_as}
use Rattle.luck_pattern.specs.Items.{
  Single,
  any,
  class,
  byte,
  Repeat,
  once,
  optional,
  star,
  plus,
  minus,
  Item,
  back_reference,
  Read,
  last,
  item,
  repeat_of,
  repeat_width,
  repeated,
  read_single,
  read_set,
  read_frontier,
  read_escape,
  read_byte,
  read_head,
  read_item,
  then_items,
  items_from,
  items,
}
use Rattle.lstr_laws.proofs.WellFormed.{AllClosed, WellFormed}
use Rattle.luck_pattern.specs.Ranges.{head_set, item_set, reversed_set, item_reversed}
use Rattle.luck_pattern.proofs.Ranges.{accepted_without}
use Rattle.luck_pattern.proofs.Exactly.{goes_on}
use Rattle.luck_pattern.proofs.Places.{ClosesFrom, first_behind, set_closes}
use Rattle.lstr_item.proofs.Items.{IsRepeat, is_repeat}

-- ---- What an acceptance rules out

pub refused_accepted : {X : Type 0} (a : Answer) (c : ℕ) → a ≡ accepted c → 0 < a.number → X
refused_accepted a c e h = let z : a.number ≡ 0 = ap (λ (x : Answer). x.number) e in absurd (omega arith)

same_count : (a b : ℕ) → accepted a ≡ accepted b → a ≡ b
same_count a b e = ap (λ (x : Answer). x.count) e

-- a test that was passed, where the other branch is a refusal
pub if_passed : (b : Bool) (x : Answer) (number offset c : ℕ) → 0 < number → (when b then x else refused number offset) ≡ accepted c → (b ≡ true) × (x ≡ accepted c)
unfolding when◌then◌else◌
if_passed true x number offset c h e = (refl, e)
if_passed false x number offset c h e = refused_accepted (refused number offset) c e h

-- ---- The check from a place on

-- what the check with its test of ranges answers from place p, after captures of which these are closed
abbrev pub Tested : List ℕ → ℕ → List Bool → Answer
Tested pat p flags = walk_from (pattern_turn true pat) (pattern_end pat) (length pat) p flags

module _ (pat : List ℕ) (c : ℕ) where
  -- the check without that test accepts from there, and counts c in all
  abbrev pub Accepts : ℕ → List Bool → Type 0
  Accepts p flags = walk_from (pattern_turn false pat) (pattern_end pat) (length pat) p flags ≡ accepted c

  -- it comes from place p to q, and accepts from there; with the test it comes there too, if the item at p has no reversed range
  abbrev pub Comes : ℕ → List Bool → ℕ → List Bool → Type 0
  Comes p flags q after = Accepts q after × (item_reversed pat p ≡ None → Tested pat p flags ≡ Tested pat q after)

  -- by way of a place whose item has no set
  by_way : (p q r : ℕ) (flags between after : List Bool) (h : Head) → head_of (byte_at pat q) ≡ h → head_set pat q h ≡ None → Comes p flags q between → Comes q between r after
      → Comes p flags r after
  unfolding item_reversed reversed_set item_set
  by_way p q r flags between after h e s x y = (y.0, λ n. x.1 n ∙ y.1 (ap (reversed_set pat) (ap (head_set pat q) e ∙ s)))

  at_the_end : (p : ℕ) (flags : List Bool) → length pat ≤ p → Accepts p flags → AllClosed c flags
  unfolding pattern_end
  at_the_end p flags h a =
      let y = if_passed (all_closed flags) (accepted (length flags)) 11 (length pat) c (omega arith) (sym (walk_end (pattern_turn false pat) (pattern_end pat) (length pat) p flags h) ∙ a) in
      record { count = same_count (length flags) c y.1; closed = y.0 }

  -- the turn at a place, whose outcome is known
  abbrev After : ℕ → List Bool → Turn (List Bool) Answer → Type 0
  After p flags (stop a) = a ≡ accepted c
  After p flags (goes width after) = 0 < width → p + width ≤ length pat → Comes p flags (p + width) after

  one_turn : (p : ℕ) (flags : List Bool) → p < length pat → Accepts p flags → (t : Turn (List Bool) Answer) → pattern_turn false pat p flags ≡ t → After p flags t
  one_turn p flags h a (stop x) e = sym (walk_stop (pattern_turn false pat) (pattern_end pat) (length pat) p flags x h e) ∙ a
  one_turn p flags h a (goes width after) e = λ g i. (
    sym (walk_goes (pattern_turn false pat) (pattern_end pat) (length pat) p flags width after g i e) ∙ a,
    λ n. walk_goes (pattern_turn true pat) (pattern_end pat) (length pat) p flags width after g i ((goes_on pat p flags width after).1 (n, e)),
  )

  by_head : (p : ℕ) (flags : List Bool) → p < length pat → Accepts p flags → (h : Head) → head_of (byte_at pat p) ≡ h → After p flags (head_turn false pat p flags h)
  unfolding pattern_turn
  by_head p flags i a h e = subst (λ x. After p flags (head_turn false pat p flags x)) e (one_turn p flags i a (head_turn false pat p flags (head_of (byte_at pat p))) refl)

  after_open : (p : ℕ) (flags : List Bool) → p < length pat → After p flags (head_turn false pat p flags at_open) → (length flags < 32) × Comes p flags (p + 1) (flags ++ (false ∷ []))
  unfolding head_turn
  after_open p flags h =
      by_test (λ (t : Turn (List Bool) Answer). After p flags t → (length flags < 32) × Comes p flags (p + 1) (flags ++ (false ∷ []))) (ltb (length flags) 32) _ _
      (λ e a. (ltb-true (length flags) 32 e, a (omega arith) (omega arith)))
      (λ e a. refused_accepted (refused 12 p) c a (omega arith))

  -- `)`: a capture is open, and is closed
  record Closed (p : ℕ) (flags : List Bool) : Type 0 where
    pub after : List Bool
    pub closes : close_latest flags ≡ Some after
    pub on : Comes p flags (p + 1) after

  after_close_lem : (p : ℕ) (flags : List Bool) → p < length pat → After p flags (head_turn false pat p flags at_close) → Closed p flags
  unfolding head_turn after_close
  after_close_lem p flags h a = go (close_latest flags) refl a
    where
      go : (o : Option (List Bool)) → close_latest flags ≡ o → After p flags (after_close p o) → Closed p flags
      go None e a = refused_accepted (refused 11 p) c a (omega arith)
      go (Some after) e a = record { after = after; closes = e; on = a (omega arith) (omega arith) }

  -- a byte that stands for itself, or a repeat
  after_byte : (p : ℕ) (flags : List Bool) → p < length pat → head_of (byte_at pat p) ≡ at_other → Accepts p flags → Comes p flags (p + 1) flags
  unfolding head_turn
  after_byte p flags h e a = by_head p flags h a at_other e (omega arith) (omega arith)

  -- what was read is passed over
  after_read : (p : ℕ) (flags : List Bool) (q : ℕ) → p < q → q ≤ length pat → After p flags (onward p flags (past q)) → Comes p flags q flags
  unfolding onward
  after_read p flags q g i a = subst (λ (x : ℕ). Comes p flags x flags) (omega arith) (a (omega arith) (omega arith))

  after_fault : {X : Type 0} (p : ℕ) (flags : List Bool) (answer : Answer) → 0 < answer.number → After p flags (onward p flags (fault answer)) → X
  unfolding onward
  after_fault p flags answer h a = refused_accepted answer c a h

  -- a set that is accepted, in the item at start, ends at its closing `]`
  record Set-accepted (start p : ℕ) (flags : List Bool) : Type 0 where
    pub at : ℕ
    pub closes : set_end pat p ≡ closes_at at
    pub behind : p < at
    pub on : Comes start flags (at + 1) flags

  set_fault : (p : ℕ) → 0 < (when is_empty_set pat p then 9 else 8)
  set_fault p = by_test (λ (n : ℕ). 0 < n) (is_empty_set pat p) _ _ (λ t. omega arith) (λ t. omega arith)

  -- the set's `[` stands at p, and the item that has it at start, before or at p
  after_set : (start p : ℕ) (flags : List Bool) → start ≤ p → After start flags (onward start flags (set_read false pat p)) → Set-accepted start p flags
  unfolding set_read set_as closed_as reversed_of when◌then◌else◌
  after_set start p flags h a = go (set_end pat p) refl (set_closes pat p) a
    where
      go : (e : SetEnd) → set_end pat p ≡ e → ClosesFrom pat (first_member pat p) (set_end pat p) → After start flags (onward start flags (set_as false pat p e)) → Set-accepted start p flags
      go (closes_at e) q i a =
          let j : ClosesFrom pat (first_member pat p) (closes_at e) = subst (ClosesFrom pat (first_member pat p)) q i in
          let k = first_behind pat p in
          record { at = e; closes = q; behind = omega (arith, j.0); on = after_read start flags (e + 1) (omega (arith, j.0)) (omega (arith, j.1)) a }
      go (cut_at e) q i a = after_fault start flags (refused 1 e) (omega arith) a
      go unclosed q i a = after_fault start flags (refused (when is_empty_set pat p then 9 else 8) p) (set_fault p) a

-- ---- The items

latest_opened : (flags : List Bool) → latest_open (flags ++ (false ∷ [])) ≡ Some (length flags)
unfolding latest_open
latest_opened [] = refl
latest_opened (f ∷ flags) = rw (latest_opened flags)

set_opened : (flags : List Bool) → set (flags ++ (false ∷ [])) (length flags) true ≡ flags ++ (true ∷ [])
set_opened [] = refl
set_opened (f ∷ flags) = ap {B = List Bool} (λ r. f ∷ r) (set_opened flags)

close_opened : (flags : List Bool) → close_latest (flags ++ (false ∷ [])) ≡ Some (flags ++ (true ∷ []))
unfolding close_latest
close_opened flags = ap (close_at (flags ++ (false ∷ []))) (latest_opened flags) ∙ ap Some (set_opened flags)

abbrev There : Escape → Type 0
There (esc_digit d) = Unit {0}
There esc_balance = Unit {0}
There esc_frontier = Unit {0}
There esc_other = Unit {0}
There esc_end = ⊥

escape_there : (pat : List ℕ) (q : ℕ) (e : Escape) → escape_at pat q ≡ e → There e → q < length pat
unfolding escape_at
escape_there pat q e f t =
    by_test (λ (x : Escape). There x → q < length pat) (ltb q (length pat)) _ _ (λ h y. ltb-true q (length pat) h) (λ h y. absurd y) (subst There (sym f) t)

module _ (pat : List ℕ) (c p : ℕ) (flags : List Bool) where
  -- the check comes from the item i at place p to the next one at q; where the items from there are well formed after the captures then, they are so with i
  pub record Next (i : Item) (q : ℕ) : Type 0 where
    pub behind : p < q
    pub after : List Bool
    pub on : Comes pat c p flags q after
    pub formed : (is : List Item) → WellFormed is after c → WellFormed (i ∷ is) flags c

  -- so it does from what was read at p, a last item ending the pattern
  abbrev pub Leads : Read → Type 0
  Leads (last i) = Next i (length pat)
  Leads (item i q) = Next i q

  -- an item that leaves the captures as they are
  next : (i : Item) (q : ℕ) → p < q → ((is : List Item) → WellFormed is flags c → WellFormed (i ∷ is) flags c) → Comes pat c p flags q flags → Next i q
  next i q g f a = record { behind = g; after = flags; on = a; formed = f }

  -- behind a single, its repeat is a byte that the check passes over
  passed : (q : ℕ) → Comes pat c p flags q flags → (b : ℕ) → byte_at pat q ≡ b → 0 < b → head_of b ≡ at_other → Comes pat c p flags (q + 1) flags
  unfolding head_set
  passed q a b e g h =
      let o = ap head_of e ∙ h in
      by_way pat c p q (q + 1) flags flags flags at_other o refl a (after_byte pat c q flags (present pat q (omega arith)) o a.0)

  repeat_leads : (x : Single) (q : ℕ) → p < q → Comes pat c p flags q flags → (r : Repeat) → IsRepeat (byte_at pat q) r → Leads (repeated x r q)
  unfolding repeated repeat_width head_of when◌then◌else◌
  repeat_leads x q g a once e = next _ (q + 0) (omega arith) (λ is w. w) (subst (λ (y : ℕ). Comes pat c p flags y flags) (omega arith) a)
  repeat_leads x q g a optional e = next _ (q + 1) (omega arith) (λ is w. w) (passed q a 63 e (omega arith) refl)
  repeat_leads x q g a star e = next _ (q + 1) (omega arith) (λ is w. w) (passed q a 42 e (omega arith) refl)
  repeat_leads x q g a plus e = next _ (q + 1) (omega arith) (λ is w. w) (passed q a 43 e (omega arith) refl)
  repeat_leads x q g a minus e = next _ (q + 1) (omega arith) (λ is w. w) (passed q a 45 e (omega arith) refl)

  single_leads : (x : Single) (q : ℕ) → p < q → Comes pat c p flags q flags → Leads (read_single pat x q)
  unfolding read_single
  single_leads x q g a = repeat_leads x q g a (repeat_of (byte_at pat q)) (is_repeat (byte_at pat q))

  open_leads : (length flags < 32) × Comes pat c p flags (p + 1) (flags ++ (false ∷ [])) → Leads (read_head pat p at_open)
  unfolding read_head head_set
  open_leads y =
      by_test Leads (eqb (byte_at pat (p + 1)) 41) _ _
      (λ e.
      let b = eqb-true (byte_at pat (p + 1)) 41 e in
      let i = present pat (p + 1) (omega arith) in
      let shut = after_close_lem pat c (p + 1) (flags ++ (false ∷ [])) i (by_head pat c (p + 1) (flags ++ (false ∷ [])) i y.1.0 at_close (closing_head b)) in
      let same : Some shut.after ≡ Some (flags ++ (true ∷ [])) = sym shut.closes ∙ close_opened flags in
      let after : shut.after ≡ flags ++ (true ∷ []) = cc in
      let both = by_way pat c p (p + 1) (p + 1 + 1) flags (flags ++ (false ∷ [])) shut.after at_close (closing_head b) refl y.1 shut.on in
      let on : Comes pat c p flags (p + 2) shut.after = subst (λ (q : ℕ). Comes pat c p flags q shut.after) (omega arith) both in
      record { behind = omega arith; after = flags ++ (true ∷ []); on = subst (Comes pat c p flags (p + 2)) after on; formed = λ is w. (y.0, w) })
      (λ e. record { behind = omega arith; after = flags ++ (false ∷ []); on = y.1; formed = λ is w. (y.0, w) })
    where
      closing_head : byte_at pat (p + 1) ≡ 41 → head_of (byte_at pat (p + 1)) ≡ at_close
      closing_head e = ap head_of e ∙ (unfold head_of when◌then◌else◌ in refl)

  close_leads : Closed pat c p flags → Leads (read_head pat p at_close)
  unfolding read_head
  close_leads y = record { behind = omega arith; after = y.after; on = y.on; formed = λ is w. (y.after, y.closes, w) }

  set_leads : Set-accepted pat c p p flags → Leads (read_head pat p at_set)
  unfolding read_head read_set
  set_leads y = rw y.closes (single_leads _ (y.at + 1) (omega (arith, y.behind)) y.on)

  frontier_leads : (q : ℕ) → p < q → Set-accepted pat c p q flags → Leads (read_frontier pat q (set_end pat q))
  unfolding read_frontier
  frontier_leads q g y = rw y.closes (next _ (y.at + 1) (omega (arith, y.behind)) (λ is w. w) y.on)

  byte_leads : Comes pat c p flags (p + 1) flags → Leads (read_head pat p at_other)
  unfolding read_head read_byte
  byte_leads a =
      by_test Leads _ _ _
      (λ e.
      let f = eqb-true (p + 1) (length pat) (and_right (eqb (byte_at pat p) 36) (eqb (p + 1) (length pat)) e) in
      next _ (length pat) (omega arith) (λ is w. at_the_end pat c (p + 1) flags (omega arith) a.0) (subst (λ (q : ℕ). Comes pat c p flags q flags) f a))
      (λ e. by_test Leads _ _ _ (λ t. single_leads any (p + 1) (omega arith) a) (λ t. single_leads (byte (byte_at pat p)) (p + 1) (omega arith) a))

  escape_leads : (e : Escape) → escape_at pat (p + 1) ≡ e → After pat c p flags (onward p flags (escape_as false pat p flags e)) → Leads (read_escape pat p e)
  unfolding escape_as read_escape when◌then◌else◌
  escape_leads esc_end f a = after_fault pat c p flags (refused 1 p) (omega arith) a
  escape_leads (esc_digit d) f a = go (is_closed flags d) refl a
    where
      go : (b : Bool) → is_closed flags d ≡ b → After pat c p flags (onward p flags (when b then past (p + 2) else fault (refused 13 (p + 1)))) → Next (back_reference d) (p + 2)
      go b e = by_test (λ (r : Found). After pat c p flags (onward p flags r) → Next (back_reference d) (p + 2)) b _ _
          (λ t a. next _ (p + 2) (omega arith) (λ is w. (e ∙ t, w)) (after_read pat c p flags (p + 2) (omega arith) (omega (arith, escape_there pat (p + 1) (esc_digit d) f tt)) a))
          (λ t a. after_fault pat c p flags (refused 13 (p + 1)) (omega arith) a)
  escape_leads esc_balance f a =
      by_test (λ (r : Found). After pat c p flags (onward p flags r) → Leads (read_escape pat p esc_balance)) (ltb (p + 3) (length pat)) _ _
      (λ t a. rw t (next _ (p + 4) (omega arith) (λ is w. w) (after_read pat c p flags (p + 4) (omega arith) (omega (arith, ltb-true (p + 3) (length pat) t)) a)))
      (λ t a. after_fault pat c p flags (refused 1 p) (omega arith) a) a
  escape_leads esc_frontier f a =
      by_test (λ (r : Found). After pat c p flags (onward p flags r) → Leads (read_escape pat p esc_frontier)) (eqb (byte_at pat (p + 2)) 91) _ _
      (λ t a. rw t (frontier_leads (p + 2) (omega arith) (after_set pat c p (p + 2) flags (omega arith) a)))
      (λ t a. after_fault pat c p flags (refused_with 10 p 102) (omega arith) a) a
  escape_leads esc_other f a =
      single_leads (class (byte_at pat (p + 1))) (p + 2) (omega arith)
      (after_read pat c p flags (p + 2) (omega arith) (omega (arith, escape_there pat (p + 1) esc_other f tt)) a)

  module _ (h : p < length pat) where
    head_leads : (x : Head) → After pat c p flags (head_turn false pat p flags x) → Leads (read_head pat p x)
    unfolding head_turn escape_read
    head_leads at_open a = open_leads (after_open pat c p flags h a)
    head_leads at_close a = close_leads (after_close_lem pat c p flags h a)
    head_leads at_percent a = percent_leads a
      where
        percent_leads : After pat c p flags (onward p flags (escape_read false pat p flags)) → Leads (read_head pat p at_percent)
        percent_leads a = unfold read_head in escape_leads (escape_at pat (p + 1)) refl a
    head_leads at_set a = set_leads (after_set pat c p p flags (omega arith) a)
    head_leads at_other a = byte_leads (a (omega arith) (omega arith))

    -- from an item that is accepted the check comes to the next
    pub item_leads : Accepts pat c p flags → Leads (read_item pat p)
    unfolding read_item
    item_leads a = head_leads (head_of (byte_at pat p)) (by_head pat c p flags h a (head_of (byte_at pat p)) refl)

module _ (pat : List ℕ) (c : ℕ) where
  from_fine : (m p : ℕ) (flags : List Bool) → length pat ≤ p + m → Accepts pat c p flags → WellFormed (items_from pat m p) flags c
  unfolding items_from then_items
  from_fine zero p flags l a = at_the_end pat c p flags (omega arith) a
  from_fine (suc m) p flags l a =
      by_test (λ (is : List Item). WellFormed is flags c) (leb (length pat) p) _ _
      (λ e. at_the_end pat c p flags (leb-true (length pat) p e) a)
      (λ e. go (read_item pat p) (item_leads pat c p flags (leb-false (length pat) p e) a) (λ q f. from_fine m q f))
    where
      go : (r : Read) → Leads pat c p flags r → ((q : ℕ) (f : List Bool) → length pat ≤ q + m → Accepts pat c q f → WellFormed (items_from pat m q) f c)
          → WellFormed (then_items (items_from pat m) r) flags c
      go (last i) y later = y.formed [] (at_the_end pat c (length pat) y.after (omega arith) y.on.0)
      go (item i q) y later = y.formed (items_from pat m q) (later q y.after (omega (arith, y.behind)) y.on.0)

  items_fine : (p : ℕ) (flags : List Bool) → Accepts pat c p flags → WellFormed (items pat p) flags c
  unfolding items
  items_fine p flags a = from_fine (length pat - p) p flags (omega arith) a

-- ---- The check

after_utf8_lem : (place : Option ℕ) (walked : Answer) (c : ℕ) → after_utf8 refused place walked ≡ accepted c → walked ≡ accepted c
unfolding after_utf8
after_utf8_lem None walked c e = e
after_utf8_lem (Some place) walked c e = refused_accepted (refused 23 place) c e (omega arith)

-- an accepted text is accepted by its walk
pub text_accepted : (version : ℕ) (text : List ℕ) (walked : Answer) (c : ℕ) → check_text version text walked ≡ accepted c → walked ≡ accepted c
unfolding check_text after_text after_version
text_accepted version text walked c e =
    after_utf8_lem (ill_formed text) walked c (if_passed (is_version version) (after_utf8 refused (ill_formed text) walked) 25 0 c (omega arith) e).1

-- with or without its test of ranges
module _ (ranges : Bool) (version : ℕ) (pat : List ℕ) (c : ℕ) (ok : check_pattern_as ranges version pat ≡ accepted c) where
  pub accepts : Accepts pat c 0 []
  unfolding check_pattern_as pattern_walk
  accepts = text_accepted version pat (pattern_walk false pat) c (accepted_without version pat ranges c ok)

  pub well_formed : WellFormed (items pat 0) [] c
  well_formed = items_fine pat c 0 [] accepts

  pub anchored_well_formed : eqb (byte_at pat 0) 94 ≡ true → WellFormed (items pat 1) [] c
  unfolding head_of when◌then◌else◌
  anchored_well_formed t =
      let b = eqb-true (byte_at pat 0) 94 t in
      let other : head_of 94 ≡ at_other = refl in
      items_fine pat c 1 [] (after_byte pat c 0 [] (present pat 0 (omega arith)) (ap head_of b ∙ other) accepts).0
