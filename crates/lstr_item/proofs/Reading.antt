-- What the code's item says of the items from its place on, a law for each way that it is read.
-- Assumes nothing.
use Rattle.std.specs.Prelude.{Option, None, Some}
use Prim.Native.Nat.{ℕ, ◌+◌, ◌-◌, ◌≤◌, ◌<◌}
use native.Mathlib.Omega.{arith}
use mathlib.Core.Path.{◌≡◌, refl, sym, ap, subst, ◌∙◌}
use mathlib.Core.Logic.{◌⊎◌, ⊎_elim}
use mathlib.Core.Bool.{false, ◌&&◌}
use mathlib.Core.List.{List, [], ◌∷◌}
use lib.ListN.{length, get_or-eq_default}
use lib.Dec.{eqb}
use borrow.Author.Tests.{lt-ltb, le-ltb, eq-eqb, ne_eqb}
use Rattle.luck_text.specs.Bytes.{when◌then◌else◌, byte_at, is_digit}
use Rattle.luck_text.proofs.Cases.{by_test, if_true, if_false, both_true, first_false, second_false, present}
use Rattle.luck_text.proofs.Bytes.{within, below, above}
use Rattle.luck_text.proofs.Walk.{walk_end}
use Rattle.luck_pattern.specs.Reading.{Head, at_open, at_close, at_percent, at_set, at_other, head_of, Escape, esc_digit, esc_balance, esc_frontier, esc_other, esc_end, escape_of, escape_at, SetEnd, closes_at, cut_at, unclosed, first_member, set_end, member_turn, members_end}
use Rattle.luck_pattern.specs.Pattern.{Scanned, past, fault, closed_as, reversed_of, set_as, set_read}
use Rattle.luck_pattern.specs.Items.{
  set_of,
  Single,
  class,
  among_set,
  Repeat,
  once,
  optional,
  star,
  plus,
  minus,
  Item,
  start_capture,
  position_capture,
  end_capture,
  end_anchor,
  balance,
  frontier,
  back_reference,
  single,
  raises,
  Read,
  last,
  item,
  repeat_of,
  repeat_width,
  repeated,
  read_single,
  read_set,
  read_frontier,
  read_escape,
  read_byte,
  read_head,
  read_item,
  then_items,
  items,
}
use Rattle.luck_pattern.proofs.Patterns as patterns
use Rattle.lstr_item.specs.Inner.{single_of, SingleIn, closing_of, repeat_as, repeat_in, repeat_read, Then, Single-then, ItemAt}
use Rattle.lstr_item.specs.declared.item.Item.{Item as Coded}
use Rattle.lstr_item.specs.declared.item.Item.TheVariants as coded
use Rattle.lstr_item.proofs.Items.{items_at, IsRepeat, is_repeat}

-- ---- The first member of a set

module _ (pat : List ℕ) (p : ℕ) where
  pub after_caret : byte_at pat (p + 1) ≡ 94 → p + 2 ≡ first_member pat p
  unfolding first_member
  after_caret b = sym (if_true _ _ _ (eq-eqb (byte_at pat (p + 1)) 94 b))

  pub after_bracket : (byte_at pat (p + 1) ≡ 94 → ⊥) → p + 1 ≡ first_member pat p
  unfolding first_member
  after_bracket b = sym (if_false _ _ _ (ne_eqb (byte_at pat (p + 1)) 94 b))

  pub after_last : length pat ≤ p + 1 → p + 1 ≡ first_member pat p
  after_last h = after_bracket (λ b. let z : byte_at pat (p + 1) ≡ 0 = get_or-eq_default pat 0 h in omega arith)

-- ---- The members of a set, by the laws of the check's walk

-- the place of the closing bracket, by what the check reads
abbrev closed_by : Scanned → Option ℕ
closed_by (past q) = Some (q - 1)
closed_by (fault a) = None

module _ (pat : List ℕ) (p : ℕ) where
  closed_as_lem : (s : SetEnd) → closed_by (set_as false pat p s) ≡ closing_of s
  unfolding set_as closed_as reversed_of when◌then◌else◌
  closed_as_lem (closes_at e) = let k : e + 1 - 1 ≡ e = omega arith in ap Some k
  closed_as_lem (cut_at e) = refl
  closed_as_lem unclosed = refl

  closed_read : (r : Scanned) → r ≡ set_read false pat p → closed_by r ≡ closing_of (set_end pat p)
  unfolding set_read
  closed_read r e = ap closed_by e ∙ closed_as_lem (set_end pat p)

  -- the first member stands at m, and the walk is at a place
  module _ (m at : ℕ) (whole : patterns.members pat at (eqb at m) ≡ set_end pat p) where
    pub closes_nowhere : length pat ≤ at → None ≡ closing_of (set_end pat p)
    unfolding members_end
    closes_nowhere h = ap closing_of (sym (walk_end (member_turn pat) members_end (length pat) at (eqb at m) h) ∙ whole)

    pub closes_here : at < length pat → byte_at pat at ≡ 93 → m < at → Some at ≡ closing_of (set_end pat p)
    closes_here h b f = let k : at ≡ at + 1 - 1 = omega arith in ap Some k ∙ closed_read (past (at + 1)) (patterns.set_closes pat p m at whole h false b f (patterns.untested false refl pat p at))

    pub closes_cut : at < length pat → byte_at pat at ≡ 37 → length pat - at ≡ 1 → None ≡ closing_of (set_end pat p)
    closes_cut h b f = closed_read _ (patterns.set_cut pat p m at whole h false b f)

-- ---- A repeat

module _ (b : ℕ) where
  pub of_optional : b ≡ 63 → optional ≡ repeat_of b
  unfolding repeat_of when◌then◌else◌
  of_optional e = rw e

  pub of_star : b ≡ 42 → star ≡ repeat_of b
  unfolding repeat_of when◌then◌else◌
  of_star e = rw e

  pub of_plus : b ≡ 43 → plus ≡ repeat_of b
  unfolding repeat_of when◌then◌else◌
  of_plus e = rw e

  pub of_minus : b ≡ 45 → minus ≡ repeat_of b
  unfolding repeat_of when◌then◌else◌
  of_minus e = rw e

  pub of_once : (b ≡ 63 → ⊥) → (b ≡ 42 → ⊥) → (b ≡ 43 → ⊥) → (b ≡ 45 → ⊥) → once ≡ repeat_of b
  unfolding repeat_of
  of_once k l m n = sym (if_false _ _ _ (ne_eqb b 63 k) ∙ if_false _ _ _ (ne_eqb b 42 l) ∙ if_false _ _ _ (ne_eqb b 43 m) ∙ if_false _ _ _ (ne_eqb b 45 n))

pub of_end : (pat : List ℕ) (q : ℕ) → length pat ≤ q → once ≡ repeat_of (byte_at pat q)
unfolding repeat_of when◌then◌else◌
of_end pat q h = rw (get_or-eq_default pat 0 {n = q} h)

-- the code's repeat is the one that was read
pub as_read : (k : Repeat) → k ≡ repeat_as (repeat_in k)
as_read once = refl
as_read optional = refl
as_read star = refl
as_read plus = refl
as_read minus = refl

-- ---- A set, by what the code found

abbrev set_by : List ℕ → ℕ → Option ℕ → Read
set_by pat p (Some e) = read_single pat (among_set (set_of pat p e)) (e + 1)
set_by pat p None = last (raises 2)

abbrev frontier_by : List ℕ → ℕ → Option ℕ → Read
frontier_by pat o (Some e) = item (frontier (set_of pat o e)) (e + 1)
frontier_by pat o None = last (raises 2)

set_by_lem : (pat : List ℕ) (p : ℕ) (s : SetEnd) → read_set pat p s ≡ set_by pat p (closing_of s)
unfolding read_set
set_by_lem pat p (closes_at e) = refl
set_by_lem pat p (cut_at e) = refl
set_by_lem pat p unclosed = refl

frontier_by_lem : (pat : List ℕ) (o : ℕ) (s : SetEnd) → read_frontier pat o s ≡ frontier_by pat o (closing_of s)
unfolding read_frontier
frontier_by_lem pat o (closes_at e) = refl
frontier_by_lem pat o (cut_at e) = refl
frontier_by_lem pat o unclosed = refl

-- ---- A place where a byte stands

module _ (pat : List ℕ) (p : ℕ) (here : p < length pat) where
  then_on : (i : Item) (q : ℕ) → read_item pat p ≡ item i q → p < q → q ≤ length pat → Then pat p i q
  unfolding then_items
  then_on i q e f g = record { is = items_at pat p here ∙ ap (then_items (items pat)) e; further = f; inside = g }

  then_last : (i : Item) → read_item pat p ≡ last i → items pat p ≡ i ∷ []
  unfolding then_items
  then_last i e = items_at pat p here ∙ ap (then_items (items pat)) e

  -- a single that ends before place e, with its repeat
  module _ (e : ℕ) (lies : SingleIn pat p e) where
    repeat_inside : (k : Repeat) → IsRepeat (byte_at pat e) k → e + repeat_width k ≤ length pat
    unfolding repeat_width
    repeat_inside once t = omega (arith, lies.inside)
    repeat_inside optional t = omega (arith, t, present pat e (omega (arith, t)))
    repeat_inside star t = omega (arith, t, present pat e (omega (arith, t)))
    repeat_inside plus t = omega (arith, t, present pat e (omega (arith, t)))
    repeat_inside minus t = omega (arith, t, present pat e (omega (arith, t)))

    then_repeat : (k : Repeat) → IsRepeat (byte_at pat e) k → read_item pat p ≡ repeated (single_of pat p e) k e → Single-then pat p e k
    unfolding repeated
    then_repeat k t y =
        record { on = then_on (single (single_of pat p e) k) (e + repeat_width k) y (omega (arith, lies.some)) (repeat_inside k t); single = lies }

    then_single : (x : Single) → x ≡ single_of pat p e → read_item pat p ≡ read_single pat x e → (r : Coded) → r ≡ repeat_read e (repeat_of (byte_at pat e)) → ItemAt pat p r
    unfolding read_single
    then_single x f y r g =
        let k = repeat_of (byte_at pat e) in
        subst (ItemAt pat p) (sym g)
        (subst (Single-then pat p e) (as_read k)
        (then_repeat k (is_repeat (byte_at pat e)) (y ∙ ap (λ (z : Single). repeated z k e) f)))

  read_as : (h : Head) → head_of (byte_at pat p) ≡ h → read_item pat p ≡ read_head pat p h
  unfolding read_item
  read_as h e = ap (read_head pat p) e

  -- ---- Captures

  module _ (b : byte_at pat p ≡ 40) where
    read_open : read_item pat p ≡ read_head pat p at_open
    read_open = read_as at_open (ap head_of b ∙ (unfold head_of when◌then◌else◌ in refl))

    pub position_at : byte_at pat (p + 1) ≡ 41 → Then pat p position_capture (p + 2)
    unfolding read_head
    position_at f =
        let i = present pat (p + 1) (omega arith) in
        then_on position_capture (p + 2) (read_open ∙ if_true _ _ _ (eq-eqb (byte_at pat (p + 1)) 41 f)) (omega arith) (omega arith)

    pub start_at : (byte_at pat (p + 1) ≡ 41 → ⊥) → Then pat p start_capture (p + 1)
    unfolding read_head
    start_at f = then_on start_capture (p + 1) (read_open ∙ if_false _ _ _ (ne_eqb (byte_at pat (p + 1)) 41 f)) (omega arith) (omega arith)

    pub start_last : length pat ≤ p + 1 → Then pat p start_capture (p + 1)
    start_last h = start_at (λ f. let z : byte_at pat (p + 1) ≡ 0 = get_or-eq_default pat 0 h in omega arith)

  pub end_at : byte_at pat p ≡ 41 → Then pat p end_capture (p + 1)
  unfolding read_head
  end_at b = then_on end_capture (p + 1) (read_as at_close (ap head_of b ∙ (unfold head_of when◌then◌else◌ in refl))) (omega arith) (omega arith)

  -- ---- A set

  module _ (b : byte_at pat p ≡ 91) where
    read_set_lem : (o : Option ℕ) → o ≡ closing_of (set_end pat p) → read_item pat p ≡ set_by pat p o
    unfolding read_head
    read_set_lem o is =
        read_as at_set (ap head_of b ∙ (unfold head_of when◌then◌else◌ in refl)) ∙ set_by_lem pat p (set_end pat p)
        ∙ ap (set_by pat p) (sym is)

    pub set_at : (e : ℕ) → Some e ≡ closing_of (set_end pat p) → p < e → e < length pat
        → (t : Coded) → t ≡ repeat_read (e + 1) (repeat_of (byte_at pat (e + 1))) → ItemAt pat p t
    unfolding single_of when◌then◌else◌
    set_at e is f g =
        let k : e ≡ e + 1 - 1 = omega arith in
        let lies : SingleIn pat p (e + 1) = record {
          some = omega arith;
          inside = omega arith;
          escape = λ _. omega arith;
          set = λ _. omega arith;
        } in
        let same : among_set (set_of pat p e) ≡ single_of pat p (e + 1) = rw (b, ← k) in
        then_single (e + 1) lies (among_set (set_of pat p e)) same (read_set_lem (Some e) is)

    pub set_unclosed : None ≡ closing_of (set_end pat p) → items pat p ≡ raises 2 ∷ []
    set_unclosed is = then_last (raises 2) (read_set_lem None is)

  -- ---- A byte

  module _ (other : head_of (byte_at pat p) ≡ at_other) where
    byte_lies : (byte_at pat p ≡ 37 → ⊥) → (byte_at pat p ≡ 91 → ⊥) → SingleIn pat p (p + 1)
    byte_lies n m = record { some = omega arith; inside = omega arith; escape = λ e. absurd (n e); set = λ e. absurd (m e) }

    byte_single : (byte_at pat p ≡ 37 → ⊥) → (byte_at pat p ≡ 91 → ⊥) → (eqb (byte_at pat p) 36 && eqb (p + 1) (length pat)) ≡ false
        → read_item pat p ≡ read_single pat (single_of pat p (p + 1)) (p + 1)
    unfolding read_head read_byte single_of
    byte_single n m a =
        read_as at_other other ∙ if_false _ _ _ a
        ∙ by_test (λ (r : Read). r ≡ read_single pat (single_of pat p (p + 1)) (p + 1)) (eqb (byte_at pat p) 46) _ _
        (λ t. ap (λ (x : Single). read_single pat x (p + 1)) (sym (if_true _ _ _ t)))
        (λ t.
        ap (λ (x : Single). read_single pat x (p + 1))
        (sym (if_false _ _ _ t ∙ if_false _ _ _ (ne_eqb (byte_at pat p) 37 n) ∙ if_false _ _ _ (ne_eqb (byte_at pat p) 91 m))))

    then_byte : (byte_at pat p ≡ 37 → ⊥) → (byte_at pat p ≡ 91 → ⊥) → (eqb (byte_at pat p) 36 && eqb (p + 1) (length pat)) ≡ false
        → (r : Coded) → r ≡ repeat_read (p + 1) (repeat_of (byte_at pat (p + 1))) → ItemAt pat p r
    then_byte n m a = then_single (p + 1) (byte_lies n m) (single_of pat p (p + 1)) refl (byte_single n m a)

  module _ (b : byte_at pat p ≡ 36) where
    dollar_head : head_of (byte_at pat p) ≡ at_other
    dollar_head = ap head_of b ∙ (unfold head_of when◌then◌else◌ in refl)

    pub anchor_at : p + 1 ≡ length pat → items pat p ≡ end_anchor ∷ []
    unfolding read_head read_byte
    anchor_at e =
        then_last end_anchor
        (read_as at_other dollar_head
        ∙ if_true _ _ _ (both_true (eqb (byte_at pat p) 36) (eqb (p + 1) (length pat)) (eq-eqb (byte_at pat p) 36 b) (eq-eqb (p + 1) (length pat) e)))

    pub dollar_at : (p + 1 ≡ length pat → ⊥) → (r : Coded) → r ≡ repeat_read (p + 1) (repeat_of (byte_at pat (p + 1))) → ItemAt pat p r
    dollar_at n =
        then_byte dollar_head (λ e. omega arith) (λ e. omega arith)
        (second_false (eqb (byte_at pat p) 36) (eqb (p + 1) (length pat)) (ne_eqb (p + 1) (length pat) n))

  pub byte_at_lem : (byte_at pat p ≡ 40 → ⊥) → (byte_at pat p ≡ 41 → ⊥) → (byte_at pat p ≡ 37 → ⊥) → (byte_at pat p ≡ 91 → ⊥) → (byte_at pat p ≡ 36 → ⊥)
      → (r : Coded) → r ≡ repeat_read (p + 1) (repeat_of (byte_at pat (p + 1))) → ItemAt pat p r
  byte_at_lem k l m n d =
      then_byte (other_head (byte_at pat p) k l m n) m n
      (first_false (eqb (byte_at pat p) 36) (eqb (p + 1) (length pat)) (ne_eqb (byte_at pat p) 36 d))
    where
      other_head : (b : ℕ) → (b ≡ 40 → ⊥) → (b ≡ 41 → ⊥) → (b ≡ 37 → ⊥) → (b ≡ 91 → ⊥) → head_of b ≡ at_other
      other_head b k l m n =
          unfold head_of in
          if_false _ _ _ (ne_eqb b 40 k) ∙ if_false _ _ _ (ne_eqb b 41 l) ∙ if_false _ _ _ (ne_eqb b 37 m) ∙ if_false _ _ _ (ne_eqb b 91 n)

  -- ---- An escape

  module _ (b : byte_at pat p ≡ 37) where
    read_escape_lem : (e : Escape) → escape_at pat (p + 1) ≡ e → read_item pat p ≡ read_escape pat p e
    unfolding read_head
    read_escape_lem e f = read_as at_percent (ap head_of b ∙ (unfold head_of when◌then◌else◌ in refl)) ∙ ap (read_escape pat p) f

    pub escape_last : length pat - p ≡ 1 → items pat p ≡ raises 1 ∷ []
    unfolding escape_at read_escape
    escape_last h = then_last (raises 1) (read_escape_lem esc_end (if_false _ _ _ (le-ltb (p + 1) (length pat) (omega arith))))

    module _ (more : p + 1 < length pat) where
      by_byte : (e : Escape) → escape_of (byte_at pat (p + 1)) ≡ e → read_item pat p ≡ read_escape pat p e
      unfolding escape_at
      by_byte e f = read_escape_lem e (if_true _ _ _ (lt-ltb (p + 1) (length pat) more) ∙ f)

      pub reference_at : 48 ≤ byte_at pat (p + 1) → byte_at pat (p + 1) < 58 → Then pat p (back_reference (byte_at pat (p + 1) - 48)) (p + 2)
      unfolding read_escape escape_of is_digit
      reference_at l h =
          then_on (back_reference (byte_at pat (p + 1) - 48)) (p + 2)
          (by_byte (esc_digit (byte_at pat (p + 1) - 48)) (if_true _ _ _ (within 48 57 (byte_at pat (p + 1)) l (omega arith)))) (omega arith) (omega arith)

      pub class_at : (byte_at pat (p + 1) < 48) ⊎ (58 ≤ byte_at pat (p + 1)) → (byte_at pat (p + 1) ≡ 98 → ⊥) → (byte_at pat (p + 1) ≡ 102 → ⊥)
          → (r : Coded) → r ≡ repeat_read (p + 2) (repeat_of (byte_at pat (p + 2))) → ItemAt pat p r
      unfolding read_escape escape_of is_digit single_of when◌then◌else◌
      class_at d m n =
          let digit : is_digit (byte_at pat (p + 1)) ≡ false = ⊎_elim (below 48 57 (byte_at pat (p + 1))) (above 48 57 (byte_at pat (p + 1))) d in
          let other : escape_of (byte_at pat (p + 1)) ≡ esc_other = rw (digit, ne_eqb (byte_at pat (p + 1)) 98 m, ne_eqb (byte_at pat (p + 1)) 102 n) in
          let same : class (byte_at pat (p + 1)) ≡ single_of pat p (p + 2) = rw b in
          let lies : SingleIn pat p (p + 2) = record { some = omega arith; inside = omega arith; escape = λ _. omega arith; set = λ _. omega arith } in
          then_single (p + 2) lies (class (byte_at pat (p + 1))) same (by_byte esc_other other)

      module _ (f : byte_at pat (p + 1) ≡ 98) where
        read_balance : read_item pat p ≡ read_escape pat p esc_balance
        read_balance = by_byte esc_balance (ap escape_of f ∙ (unfold escape_of is_digit when◌then◌else◌ in refl))

        pub balance_at : p + 3 < length pat → Then pat p (balance (byte_at pat (p + 2)) (byte_at pat (p + 3))) (p + 4)
        unfolding read_escape
        balance_at h =
            then_on (balance (byte_at pat (p + 2)) (byte_at pat (p + 3))) (p + 4) (read_balance ∙ if_true _ _ _ (lt-ltb (p + 3) (length pat) h)) (omega arith) (omega arith)

        pub balance_cut : length pat ≤ p + 3 → items pat p ≡ raises 4 ∷ []
        unfolding read_escape
        balance_cut h = then_last (raises 4) (read_balance ∙ if_false _ _ _ (le-ltb (p + 3) (length pat) h))

      module _ (f : byte_at pat (p + 1) ≡ 102) where
        read_frontier_lem : read_item pat p ≡ read_escape pat p esc_frontier
        read_frontier_lem = by_byte esc_frontier (ap escape_of f ∙ (unfold escape_of is_digit when◌then◌else◌ in refl))

        pub frontier_no_set : (byte_at pat (p + 2) ≡ 91 → ⊥) → items pat p ≡ raises 3 ∷ []
        unfolding read_escape
        frontier_no_set n = then_last (raises 3) (read_frontier_lem ∙ if_false _ _ _ (ne_eqb (byte_at pat (p + 2)) 91 n))

        pub frontier_last : length pat ≤ p + 2 → items pat p ≡ raises 3 ∷ []
        frontier_last h = frontier_no_set (λ g. let z : byte_at pat (p + 2) ≡ 0 = get_or-eq_default pat 0 h in omega arith)

        module _ (g : byte_at pat (p + 2) ≡ 91) where
          frontier_found : (o : Option ℕ) → o ≡ closing_of (set_end pat (p + 2)) → read_item pat p ≡ frontier_by pat (p + 2) o
          unfolding read_escape
          frontier_found o is =
              read_frontier_lem ∙ if_true _ _ _ (eq-eqb (byte_at pat (p + 2)) 91 g) ∙ frontier_by_lem pat (p + 2) (set_end pat (p + 2))
              ∙ ap (frontier_by pat (p + 2)) (sym is)

          pub frontier_at : (e : ℕ) → Some e ≡ closing_of (set_end pat (p + 2)) → p + 2 < e → e < length pat → ItemAt pat p (coded.Frontier (p + 2) (e + 1))
          frontier_at e is h i =
              let k : e ≡ e + 1 - 1 = omega arith in (
                then_on (frontier (set_of pat (p + 2) (e + 1 - 1))) (e + 1)
                    (frontier_found (Some e) is ∙ ap (λ (x : ℕ). item (frontier (set_of pat (p + 2) x)) (e + 1)) k) (omega arith) (omega arith),
                omega arith,
              )

          pub frontier_unclosed : None ≡ closing_of (set_end pat (p + 2)) → items pat p ≡ raises 2 ∷ []
          frontier_unclosed is = then_last (raises 2) (frontier_found None is)
