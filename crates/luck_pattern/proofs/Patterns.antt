-- Laws of patterns: a law for each case of a set, of an escape and of an item, as the code meets it.
-- Assumes nothing.
use Rattle.std.specs.Prelude.{Option, None, Some}
use Prim.Native.Nat.{ℕ, ◌+◌, ◌-◌, ◌≤◌, ◌<◌}
use native.Mathlib.Omega.{arith}
use mathlib.Core.Path.{◌≡◌, refl, sym, ap, ap₂, ◌∙◌}
use mathlib.Core.Bool.{Bool, true, false}
use mathlib.Core.List.{List}
use lib.ListN.{length, get_or-eq_default}
use lib.Dec.{eqb, ltb}
use borrow.Author.Tests.{lt-ltb, le-ltb, eq-eqb, ne_eqb}
use Rattle.luck_text.specs.Bytes.{when◌then◌else◌, byte_at, is_digit}
use Rattle.luck_text.specs.Walk.{Turn, stop, goes, walk_from}
use Rattle.luck_text.proofs.Cases.{by_test, if_true, if_false, first_false, second_false}
use Rattle.luck_text.proofs.Bytes.{within, below, above}
use Rattle.luck_text.proofs.Walk.{walk_end, walk_stop, walk_goes}
use Rattle.luck_answer.specs.Answer.{Answer, accepted, refused, refused_with}
use Rattle.luck_pattern.specs.Elements.{first_reversed}
use Rattle.luck_pattern.specs.Captures.{max_captures, close_latest, is_closed, all_closed}
use Rattle.luck_pattern.specs.Reading.{
  Head,
  at_open,
  at_close,
  at_percent,
  at_set,
  at_other,
  head_of,
  Escape,
  esc_digit,
  esc_balance,
  esc_frontier,
  esc_other,
  esc_end,
  escape_of,
  escape_at,
  member_at,
  SetEnd,
  closes_at,
  cut_at,
  unclosed,
  member_by,
  member_turn,
  members_end,
  first_member,
  set_end,
}
use Rattle.luck_pattern.specs.Pattern.{
  is_empty_set,
  Scanned,
  past,
  fault,
  closed_as,
  reversed_of,
  set_as,
  set_read,
  escape_as,
  escape_read,
  onward,
  after_close,
  head_turn,
  pattern_turn,
  pattern_end,
  pattern_walk,
}
use Rattle.luck_pattern.specs.Inner.{open_one}
use Rattle.luck_pattern.proofs.Elements.{element_plain, element_escaped, elements_end}

-- ---- A member

module _ (text : List ℕ) (at : ℕ) (first : Bool) where
  closing : byte_at text at ≡ 93 → first ≡ false → member_turn text at first ≡ stop (closes_at at)
  unfolding member_turn member_at member_by when◌then◌else◌
  closing e f = rw (e, f)

  first_bracket : byte_at text at ≡ 93 → first ≡ true → member_turn text at first ≡ goes 1 false
  unfolding member_turn member_at member_by when◌then◌else◌
  first_bracket e f = rw (e, f)

  escaped : byte_at text at ≡ 37 → at + 1 < length text → member_turn text at first ≡ goes 2 false
  unfolding member_turn member_at member_by when◌then◌else◌
  escaped e h = rw (e, lt-ltb (at + 1) (length text) h)

  cut : byte_at text at ≡ 37 → length text ≤ at + 1 → member_turn text at first ≡ stop (cut_at at)
  unfolding member_turn member_at member_by when◌then◌else◌
  cut e h = rw (e, le-ltb (at + 1) (length text) h)

  plain : (byte_at text at ≡ 93 → ⊥) → (byte_at text at ≡ 37 → ⊥) → member_turn text at first ≡ goes 1 false
  unfolding member_turn member_at member_by when◌then◌else◌
  plain p q = rw (ne_eqb (byte_at text at) 93 p, ne_eqb (byte_at text at) 37 q)

-- ---- A set

-- the first member, after `[` or `[^`
module _ (text : List ℕ) (p : ℕ) where
  pub first_behind_caret : byte_at text (p + 1) ≡ 94 → first_member text p ≡ p + 1 + 1
  unfolding first_member when◌then◌else◌
  first_behind_caret e = rw (eq-eqb (byte_at text (p + 1)) 94 e) (omega arith)

  pub first_behind_bracket : (byte_at text (p + 1) ≡ 94 → ⊥) → first_member text p ≡ p + 1
  unfolding first_member when◌then◌else◌
  first_behind_bracket h = rw (ne_eqb (byte_at text (p + 1)) 94 h)

  pub first_past : length text ≤ p + 1 → first_member text p ≡ p + 1
  first_past h = first_behind_bracket (λ e. let z : byte_at text (p + 1) ≡ 0 = get_or-eq_default text 0 h in omega arith)

pub ruleset firsts = (first_behind_caret, first_behind_bracket, first_past)

-- the members from a place on
abbrev pub members : List ℕ → ℕ → Bool → SetEnd
members text at first = walk_from (member_turn text) members_end (length text) at first

set_as_lem : (ranges : Bool) (text : List ℕ) (start : ℕ) (end : SetEnd) → end ≡ set_end text start → set_as ranges text start end ≡ set_read ranges text start
unfolding set_read
set_as_lem ranges text start end e = ap (set_as ranges text start) e

set_open : (ranges : Bool) (text : List ℕ) (start : ℕ) (empty : Bool) → is_empty_set text start ≡ empty → unclosed ≡ set_end text start
    → fault (refused (when empty then 9 else 8) start) ≡ set_read ranges text start
unfolding set_as
set_open ranges text start empty e f = ap (λ (b : Bool). fault (refused (when b then 9 else 8) start)) (sym e) ∙ set_as_lem ranges text start unclosed f

module _ (text : List ℕ) (start m : ℕ) (is : m ≡ first_member text start) where
  pub set_begins : members text m (eqb m m) ≡ set_end text start
  unfolding set_end
  set_begins = ap₂ (λ (p : ℕ) (first : Bool). members text p first) is (eq-eqb m m refl)

  pub no_bracket : (byte_at text m ≡ 93 → ⊥) → is_empty_set text start ≡ false
  unfolding is_empty_set
  no_bracket h = rw (← is) (first_false (eqb (byte_at text m) 93) (eqb (m + 1) (length text)) (ne_eqb (byte_at text m) 93 h))

  pub no_end : m ≤ length text → (length text - m ≡ 1 → ⊥) → is_empty_set text start ≡ false
  unfolding is_empty_set
  no_end l h = rw (← is) (second_false (eqb (byte_at text m) 93) (eqb (m + 1) (length text)) (ne_eqb (m + 1) (length text) (λ e. h (omega arith))))

  pub set_empty : (ranges : Bool) → length text - m ≡ 1 → byte_at text m ≡ 93 → fault (refused 9 start) ≡ set_read ranges text start
  unfolding is_empty_set members_end when◌then◌else◌
  set_empty ranges h b =
      let last : m + 1 ≡ length text = omega arith in
      let empty : is_empty_set text start ≡ true = rw (← is, b, eq-eqb (m + 1) (length text) last) in
      let one = walk_goes (member_turn text) members_end (length text) m (eqb m m) 1 false (omega arith) (omega arith) (first_bracket text m (eqb m m) b (eq-eqb m m refl)) in
      let none_left = walk_end (member_turn text) members_end (length text) (m + 1) false (omega arith) in
      set_open ranges text start true empty (sym none_left ∙ sym one ∙ set_begins)

-- without the test none is looked for; with it, from the first member on
pub untested : (ranges : Bool) → ranges ≡ false → (text : List ℕ) (start at : ℕ) → reversed_of ranges text start at ≡ None
unfolding reversed_of
untested ranges r text start at = if_false _ _ _ r

pub tested : (ranges : Bool) → ranges ≡ true → (text : List ℕ) (start at m : ℕ) → m ≡ first_member text start → reversed_of ranges text start at ≡ first_reversed text at m
unfolding reversed_of
tested ranges r text start at m is = if_true _ _ _ r ∙ ap (first_reversed text at) (sym is)

-- where there is none, it does not matter whether it is looked for
pub none_there : (ranges : Bool) (text : List ℕ) (start at m : ℕ) → m ≡ first_member text start → first_reversed text at m ≡ None → reversed_of ranges text start at ≡ None
none_there true text start at m is e = tested true refl text start at m is ∙ e
none_there false text start at m is e = untested false refl text start at

-- a turn of the loop over the members, the first at m
module _ (text : List ℕ) (start m at : ℕ) (whole : members text at (eqb at m) ≡ set_end text start) where
  passes : (w : ℕ) → 0 < w → at + w ≤ length text → m ≤ at → member_turn text at (eqb at m) ≡ goes w false
      → members text (at + w) (eqb (at + w) m) ≡ set_end text start
  passes w g h l e =
      ap (members text (at + w)) (ne_eqb (at + w) m (λ q. omega arith))
      ∙ sym (walk_goes (member_turn text) members_end (length text) at (eqb at m) w false g h e) ∙ whole

  ends : (ranges : Bool) → (end : SetEnd) → at < length text → member_turn text at (eqb at m) ≡ stop end → set_as ranges text start end ≡ set_read ranges text start
  ends ranges end h e = set_as_lem ranges text start end (sym (walk_stop (member_turn text) members_end (length text) at (eqb at m) end h e) ∙ whole)

  pub set_unclosed : (ranges : Bool) → is_empty_set text start ≡ false → length text ≤ at → fault (refused 8 start) ≡ set_read ranges text start
  unfolding members_end when◌then◌else◌
  set_unclosed ranges e h = set_open ranges text start false e (sym (walk_end (member_turn text) members_end (length text) at (eqb at m) h) ∙ whole)

  module _ (inside : at < length text) where
    -- the set closes, and this is its first reversed range that is looked for
    pub closes : (ranges : Bool) → byte_at text at ≡ 93 → m < at → (o : Option ℕ) → reversed_of ranges text start at ≡ o → closed_as at o ≡ set_read ranges text start
    unfolding set_as
    closes ranges b h o e = ap (closed_as at) (sym e) ∙ ends ranges (closes_at at) inside (closing text at (eqb at m) b (ne_eqb at m (λ q. omega arith)))

    pub set_closes : (ranges : Bool) → byte_at text at ≡ 93 → m < at → reversed_of ranges text start at ≡ None → past (at + 1) ≡ set_read ranges text start
    unfolding closed_as
    set_closes ranges b h e = closes ranges b h None e

    pub set_cut : (ranges : Bool) → byte_at text at ≡ 37 → length text - at ≡ 1 → fault (refused 1 at) ≡ set_read ranges text start
    unfolding set_as
    set_cut ranges b h = ends ranges (cut_at at) inside (cut text at (eqb at m) b (omega arith))

    module _ (behind : m ≤ at) where
      pub set_first : byte_at text at ≡ 93 → at ≤ m → members text (at + 1) (eqb (at + 1) m) ≡ set_end text start
      set_first b h = passes 1 (omega arith) (omega arith) behind (first_bracket text at (eqb at m) b (eq-eqb at m (omega arith)))

      pub set_escaped : byte_at text at ≡ 37 → (length text - at ≡ 1 → ⊥) → members text (at + 2) (eqb (at + 2) m) ≡ set_end text start
      set_escaped b h = let more : at + 1 < length text = omega arith in passes 2 (omega arith) (omega arith) behind (escaped text at (eqb at m) b more)

      pub set_plain : (byte_at text at ≡ 93 → ⊥) → (byte_at text at ≡ 37 → ⊥) → members text (at + 1) (eqb (at + 1) m) ≡ set_end text start
      set_plain p q = passes 1 (omega arith) (omega arith) behind (plain text at (eqb at m) p q)

-- for a function that reads a set
pub ruleset members_read = (set_begins, no_bracket, no_end, set_empty, set_unclosed, closes, set_closes, set_cut, set_first, set_escaped, set_plain, untested, tested, none_there, element_plain, element_escaped, elements_end)

-- ---- An escape

module _ (b : ℕ) where
  of_digit : 48 ≤ b → b < 58 → escape_of b ≡ esc_digit (b - 48)
  unfolding escape_of is_digit
  of_digit l h = if_true _ _ _ (within 48 57 b l (omega arith))

  of_balance : b ≡ 98 → escape_of b ≡ esc_balance
  unfolding escape_of is_digit when◌then◌else◌
  of_balance e = rw e

  of_frontier : b ≡ 102 → escape_of b ≡ esc_frontier
  unfolding escape_of is_digit when◌then◌else◌
  of_frontier e = rw e

  of_other : is_digit b ≡ false → (b ≡ 98 → ⊥) → (b ≡ 102 → ⊥) → escape_of b ≡ esc_other
  unfolding escape_of
  of_other d p q = if_false _ _ _ d ∙ if_false _ _ _ (ne_eqb b 98 p) ∙ if_false _ _ _ (ne_eqb b 102 q)

module _ (ranges : Bool) (text : List ℕ) (p : ℕ) (captures : List Bool) where
  escape_as_lem : (e : Escape) → escape_at text (p + 1) ≡ e → escape_as ranges text p captures e ≡ escape_read ranges text p captures
  unfolding escape_read
  escape_as_lem e h = ap (escape_as ranges text p captures) (sym h)

  pub escape_end : length text - p ≡ 1 → fault (refused 1 p) ≡ escape_read ranges text p captures
  unfolding escape_at escape_as
  escape_end h = escape_as_lem esc_end (if_false _ _ _ (le-ltb (p + 1) (length text) (omega arith)))

  module _ (inside : p < length text) (more : length text - p ≡ 1 → ⊥) where
    by_byte : (e : Escape) → escape_of (byte_at text (p + 1)) ≡ e → escape_as ranges text p captures e ≡ escape_read ranges text p captures
    unfolding escape_at
    by_byte e h = let there : p + 1 < length text = omega arith in escape_as_lem e (if_true _ _ _ (lt-ltb (p + 1) (length text) there) ∙ h)

    pub escape_closed : 48 ≤ byte_at text (p + 1) → byte_at text (p + 1) < 58 → is_closed captures (byte_at text (p + 1) - 48) ≡ true
        → past (p + 2) ≡ escape_read ranges text p captures
    unfolding escape_as
    escape_closed l h e = sym (if_true _ _ _ e) ∙ by_byte (esc_digit (byte_at text (p + 1) - 48)) (of_digit (byte_at text (p + 1)) l h)

    pub escape_open : 48 ≤ byte_at text (p + 1) → byte_at text (p + 1) < 58 → is_closed captures (byte_at text (p + 1) - 48) ≡ false
        → fault (refused 13 (p + 1)) ≡ escape_read ranges text p captures
    unfolding escape_as
    escape_open l h e = sym (if_false _ _ _ e) ∙ by_byte (esc_digit (byte_at text (p + 1) - 48)) (of_digit (byte_at text (p + 1)) l h)

    pub escape_balance : byte_at text (p + 1) ≡ 98 → p + 3 < length text → past (p + 2 + 2) ≡ escape_read ranges text p captures
    unfolding escape_as
    escape_balance e h =
        let four : p + 2 + 2 ≡ p + 4 = omega arith in
        ap past four ∙ sym (if_true _ _ _ (lt-ltb (p + 3) (length text) h)) ∙ by_byte esc_balance (of_balance (byte_at text (p + 1)) e)

    pub escape_balance_cut : byte_at text (p + 1) ≡ 98 → length text ≤ p + 3 → fault (refused 1 p) ≡ escape_read ranges text p captures
    unfolding escape_as
    escape_balance_cut e h = sym (if_false _ _ _ (le-ltb (p + 3) (length text) h)) ∙ by_byte esc_balance (of_balance (byte_at text (p + 1)) e)

    pub escape_frontier : byte_at text (p + 1) ≡ 102 → byte_at text (p + 2) ≡ 91 → set_read ranges text (p + 2) ≡ escape_read ranges text p captures
    unfolding escape_as
    escape_frontier e h = sym (if_true _ _ _ (eq-eqb (byte_at text (p + 2)) 91 h)) ∙ by_byte esc_frontier (of_frontier (byte_at text (p + 1)) e)

    pub escape_no_set : byte_at text (p + 1) ≡ 102 → (byte_at text (p + 2) ≡ 91 → ⊥) → fault (refused_with 10 p 102) ≡ escape_read ranges text p captures
    unfolding escape_as
    escape_no_set e h = sym (if_false _ _ _ (ne_eqb (byte_at text (p + 2)) 91 h)) ∙ by_byte esc_frontier (of_frontier (byte_at text (p + 1)) e)

    pub escape_no_byte : byte_at text (p + 1) ≡ 102 → length text ≤ p + 2 → fault (refused_with 10 p 102) ≡ escape_read ranges text p captures
    escape_no_byte e h = escape_no_set e (λ b. let z : byte_at text (p + 2) ≡ 0 = get_or-eq_default text 0 h in omega arith)

    -- a byte below or above the digits
    pub escape_below : byte_at text (p + 1) < 48 → (byte_at text (p + 1) ≡ 98 → ⊥) → (byte_at text (p + 1) ≡ 102 → ⊥) → past (p + 2) ≡ escape_read ranges text p captures
    unfolding escape_as is_digit
    escape_below d f g = by_byte esc_other (of_other (byte_at text (p + 1)) (below 48 57 (byte_at text (p + 1)) d) f g)

    pub escape_above : 58 ≤ byte_at text (p + 1) → (byte_at text (p + 1) ≡ 98 → ⊥) → (byte_at text (p + 1) ≡ 102 → ⊥) → past (p + 2) ≡ escape_read ranges text p captures
    unfolding escape_as is_digit
    escape_above d f g = by_byte esc_other (of_other (byte_at text (p + 1)) (above 48 57 (byte_at text (p + 1)) d) f g)

-- for a function that reads an escape
pub ruleset escapes = (escape_end, escape_closed, escape_open, escape_balance, escape_balance_cut, escape_frontier, escape_no_set, escape_no_byte, escape_below, escape_above)

-- ---- An item

module _ (b : ℕ) where
  of_open : b ≡ 40 → head_of b ≡ at_open
  unfolding head_of when◌then◌else◌
  of_open e = rw e

  of_close : b ≡ 41 → head_of b ≡ at_close
  unfolding head_of when◌then◌else◌
  of_close e = rw e

  of_percent : b ≡ 37 → head_of b ≡ at_percent
  unfolding head_of when◌then◌else◌
  of_percent e = rw e

  of_set : b ≡ 91 → head_of b ≡ at_set
  unfolding head_of when◌then◌else◌
  of_set e = rw e

  of_plain : (b ≡ 37 → ⊥) → (b ≡ 91 → ⊥) → (b ≡ 40 → ⊥) → (b ≡ 41 → ⊥) → head_of b ≡ at_other
  unfolding head_of
  of_plain p q r s = if_false _ _ _ (ne_eqb b 40 r) ∙ if_false _ _ _ (ne_eqb b 41 s) ∙ if_false _ _ _ (ne_eqb b 37 p) ∙ if_false _ _ _ (ne_eqb b 91 q)

-- a capture is opened unless there are as many as there may be
after_open : ℕ → Option (List Bool) → Turn (List Bool) Answer
after_open p None = stop (refused 12 p)
after_open p (Some captures) = goes 1 captures

by_count : (ranges : Bool) (text : List ℕ) (p : ℕ) (captures : List Bool) → head_turn ranges text p captures at_open ≡ after_open p (open_one captures)
unfolding head_turn open_one after_open
by_count ranges text p captures = by_test (λ o. head_turn ranges text p captures at_open ≡ after_open p o) (ltb (length captures) max_captures) _ _ (λ t. if_true _ _ _ t) (λ t. if_false _ _ _ t)

-- the walk from a place on, after these captures
abbrev pub items : Bool → List ℕ → ℕ → List Bool → Answer
items ranges text p captures = walk_from (pattern_turn ranges text) (pattern_end text) (length text) p captures

module _ (ranges : Bool) (text : List ℕ) (p : ℕ) (captures : List Bool) where
  item_as : (h : Head) → head_of (byte_at text p) ≡ h → pattern_turn ranges text p captures ≡ head_turn ranges text p captures h
  unfolding pattern_turn
  item_as h e = ap (head_turn ranges text p captures) e

  pub item_escape : byte_at text p ≡ 37 → pattern_turn ranges text p captures ≡ onward p captures (escape_read ranges text p captures)
  unfolding head_turn
  item_escape e = item_as at_percent (of_percent (byte_at text p) e)

  pub item_set : byte_at text p ≡ 91 → pattern_turn ranges text p captures ≡ onward p captures (set_read ranges text p)
  unfolding head_turn
  item_set e = item_as at_set (of_set (byte_at text p) e)

  -- a turn of the walk
  module _ (inside : p < length text) (whole : items ranges text p captures ≡ pattern_walk ranges text) where
    next : (after : List Bool) → pattern_turn ranges text p captures ≡ goes 1 after → items ranges text (p + 1) after ≡ pattern_walk ranges text
    next after e = sym (walk_goes (pattern_turn ranges text) (pattern_end text) (length text) p captures 1 after (omega arith) (omega arith) e) ∙ whole

    stops : (answer : Answer) → pattern_turn ranges text p captures ≡ stop answer → answer ≡ pattern_walk ranges text
    stops answer e = sym (walk_stop (pattern_turn ranges text) (pattern_end text) (length text) p captures answer inside e) ∙ whole

    pub turn_plain : (byte_at text p ≡ 37 → ⊥) → (byte_at text p ≡ 91 → ⊥) → (byte_at text p ≡ 40 → ⊥) → (byte_at text p ≡ 41 → ⊥)
        → items ranges text (p + 1) captures ≡ pattern_walk ranges text
    unfolding head_turn
    turn_plain e f g h = next captures (item_as at_other (of_plain (byte_at text p) e f g h))

    opens : byte_at text p ≡ 40 → (o : Option (List Bool)) → o ≡ open_one captures → pattern_turn ranges text p captures ≡ after_open p o
    opens e o h = item_as at_open (of_open (byte_at text p) e) ∙ by_count ranges text p captures ∙ ap (after_open p) (sym h)

    pub turn_open : byte_at text p ≡ 40 → (after : List Bool) → Some after ≡ open_one captures → items ranges text (p + 1) after ≡ pattern_walk ranges text
    unfolding after_open
    turn_open e after h = next after (opens e (Some after) h)

    pub turn_full : byte_at text p ≡ 40 → None ≡ open_one captures → refused 12 p ≡ pattern_walk ranges text
    unfolding after_open
    turn_full e h = stops (refused 12 p) (opens e None h)

    pub turn_close : byte_at text p ≡ 41 → (after : List Bool) → Some after ≡ close_latest captures → items ranges text (p + 1) after ≡ pattern_walk ranges text
    unfolding head_turn after_close
    turn_close e after h = next after (item_as at_close (of_close (byte_at text p) e) ∙ ap (after_close p) (sym h))

    pub turn_unmatched : byte_at text p ≡ 41 → None ≡ close_latest captures → refused 11 p ≡ pattern_walk ranges text
    unfolding head_turn after_close
    turn_unmatched e h = stops (refused 11 p) (item_as at_close (of_close (byte_at text p) e) ∙ ap (after_close p) (sym h))

    -- what was read takes the walk on to the place after it, or ends it
    onwards : (read : Scanned) → pattern_turn ranges text p captures ≡ onward p captures read → (q : ℕ) → past q ≡ read → p < q → q ≤ length text
        → items ranges text q captures ≡ pattern_walk ranges text
    unfolding onward
    onwards read here q e b i =
        let k : p + (q - p) ≡ q = omega arith in
        ap (λ (x : ℕ). items ranges text x captures) (sym k)
        ∙ sym (walk_goes (pattern_turn ranges text) (pattern_end text) (length text) p captures (q - p) captures (omega arith) (omega arith) (here ∙ ap (onward p captures) (sym e))) ∙ whole

    faults : (read : Scanned) → pattern_turn ranges text p captures ≡ onward p captures read → (answer : Answer) → fault answer ≡ read → answer ≡ pattern_walk ranges text
    unfolding onward
    faults read here answer e = stops answer (here ∙ ap (onward p captures) (sym e))

    pub past_escape : byte_at text p ≡ 37 → (q : ℕ) → past q ≡ escape_read ranges text p captures → p < q → q ≤ length text
        → items ranges text q captures ≡ pattern_walk ranges text
    past_escape e = onwards (escape_read ranges text p captures) (item_escape e)

    pub fault_escape : byte_at text p ≡ 37 → (answer : Answer) → fault answer ≡ escape_read ranges text p captures → answer ≡ pattern_walk ranges text
    fault_escape e = faults (escape_read ranges text p captures) (item_escape e)

    pub past_set : byte_at text p ≡ 91 → (q : ℕ) → past q ≡ set_read ranges text p → p < q → q ≤ length text
        → items ranges text q captures ≡ pattern_walk ranges text
    past_set e = onwards (set_read ranges text p) (item_set e)

    pub fault_set : byte_at text p ≡ 91 → (answer : Answer) → fault answer ≡ set_read ranges text p → answer ≡ pattern_walk ranges text
    fault_set e = faults (set_read ranges text p) (item_set e)

-- at the end, where all captures are closed, and where one is open
module _ (ranges : Bool) (text : List ℕ) (p : ℕ) (captures : List Bool) (past_all : length text ≤ p) (whole : items ranges text p captures ≡ pattern_walk ranges text) where
  ends_with : (answer : Answer) → pattern_end text p captures ≡ answer → answer ≡ pattern_walk ranges text
  ends_with answer e = sym e ∙ sym (walk_end (pattern_turn ranges text) (pattern_end text) (length text) p captures past_all) ∙ whole

  pub all_read : all_closed captures ≡ true → accepted (length captures) ≡ pattern_walk ranges text
  unfolding pattern_end
  all_read e = ends_with _ (if_true _ _ _ e)

  pub one_open : all_closed captures ≡ false → refused 11 (length text) ≡ pattern_walk ranges text
  unfolding pattern_end
  one_open e = ends_with _ (if_false _ _ _ e)

-- for a function that walks over the items
pub ruleset turns = (turn_plain, turn_open, turn_full, turn_close, turn_unmatched, past_escape, fault_escape, past_set, fault_set, all_read, one_open)
