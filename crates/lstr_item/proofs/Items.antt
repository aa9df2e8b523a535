-- The items of a pattern from a place on are the item at this place and those after it: the law that removes the bound of their definition.
-- It rests on this: each item ends behind its place.
-- Assumes nothing.
use Prim.Native.Nat.{ℕ, zero, suc, ◌+◌, ◌-◌, ◌≤◌, ◌<◌}
use native.Mathlib.Omega.{arith}
use mathlib.Core.Path.{◌≡◌, refl, sym, ap, ◌∙◌}
use mathlib.Core.Logic.{⊎_elim}
use mathlib.Core.Bool.{◌&&◌}
use mathlib.Core.List.{List, [], ◌∷◌}
use lib.ListN.{length}
use lib.Dec.{eqb, ltb}
use borrow.Author.Tests.{le-leb, lt-leb, eqb-true}
use Rattle.luck_text.specs.Bytes.{byte_at}
use Rattle.luck_text.proofs.Cases.{by_test, if_true, if_false, order}
use Rattle.luck_pattern.specs.Reading.{Head, at_open, at_close, at_percent, at_set, at_other, head_of, Escape, esc_digit, esc_balance, esc_frontier, esc_other, esc_end, escape_at, SetEnd, closes_at, cut_at, unclosed, first_member, set_end}
use Rattle.luck_pattern.specs.Items.{
  set_of,
  Single,
  any,
  class,
  among_set,
  byte,
  Repeat,
  once,
  optional,
  star,
  plus,
  minus,
  Item,
  Read,
  last,
  item,
  repeat_of,
  repeated,
  read_single,
  read_set,
  read_frontier,
  read_escape,
  read_byte,
  read_head,
  read_item,
  then_items,
  items_from,
  items,
}
use Rattle.luck_pattern.proofs.Places.{ClosesFrom, first_behind, set_closes}

-- ---- An item ends behind its place

module _ (pat : List ℕ) where
  abbrev Further : ℕ → Read → Type 0
  Further p (last i) = Unit {0}
  Further p (item i q) = p < q

  single_further : (p : ℕ) (x : Single) (q : ℕ) → p < q → Further p (read_single pat x q)
  unfolding read_single repeated
  single_further p x q h = omega arith

  set_further : (p : ℕ) (e : SetEnd) → ClosesFrom pat (first_member pat p) e → Further p (read_set pat p e)
  unfolding read_set
  set_further p (closes_at e) h = single_further p (among_set (set_of pat p e)) (e + 1) (omega (arith, first_behind pat p, h.0))
  set_further p (cut_at e) h = tt
  set_further p unclosed h = tt

  frontier_further : (p o : ℕ) → p ≤ o → (e : SetEnd) → ClosesFrom pat (first_member pat o) e → Further p (read_frontier pat o e)
  unfolding read_frontier
  frontier_further p o l (closes_at e) h = omega (arith, first_behind pat o, h.0)
  frontier_further p o l (cut_at e) h = tt
  frontier_further p o l unclosed h = tt

  escape_further : (p : ℕ) (e : Escape) → Further p (read_escape pat p e)
  unfolding read_escape
  escape_further p esc_end = tt
  escape_further p (esc_digit d) = omega arith
  escape_further p esc_balance = by_test (Further p) (ltb (p + 3) (length pat)) _ _ (λ t. omega arith) (λ t. tt)
  escape_further p esc_frontier =
      by_test (Further p) (eqb (byte_at pat (p + 2)) 91) _ _ (λ t. frontier_further p (p + 2) (omega arith) (set_end pat (p + 2)) (set_closes pat (p + 2))) (λ t. tt)
  escape_further p esc_other = single_further p (class (byte_at pat (p + 1))) (p + 2) (omega arith)

  head_further : (p : ℕ) (h : Head) → Further p (read_head pat p h)
  unfolding read_head read_byte
  head_further p at_open = by_test (Further p) (eqb (byte_at pat (p + 1)) 41) _ _ (λ t. omega arith) (λ t. omega arith)
  head_further p at_close = omega arith
  head_further p at_percent = escape_further p (escape_at pat (p + 1))
  head_further p at_set = set_further p (set_end pat p) (set_closes pat p)
  head_further p at_other =
      by_test (Further p) (eqb (byte_at pat p) 36 && eqb (p + 1) (length pat)) _ _ (λ t. tt)
      (λ t.
      by_test (Further p) (eqb (byte_at pat p) 46) _ _ (λ t. single_further p any (p + 1) (omega arith)) (λ t. single_further p (byte (byte_at pat p)) (p + 1) (omega arith)))

  read_further : (p : ℕ) → Further p (read_item pat p)
  unfolding read_item
  read_further p = head_further p (head_of (byte_at pat p))

  -- ---- The items without their bound

  none_from : (n p : ℕ) → length pat ≤ p → items_from pat n p ≡ []
  unfolding items_from
  none_from zero p h = refl
  none_from (suc n) p h = if_true _ _ _ (le-leb (length pat) p h)

  one_from : (n p : ℕ) → p < length pat → items_from pat (suc n) p ≡ then_items (items_from pat n) (read_item pat p)
  unfolding items_from
  one_from n p h = if_false _ _ _ (lt-leb (length pat) p h)

  then_same : (rest others : ℕ → List Item) (p : ℕ) (r : Read) → Further p r → ((q : ℕ) → p < q → rest q ≡ others q) → then_items rest r ≡ then_items others r
  unfolding then_items
  then_same rest others p (last i) f h = refl
  then_same rest others p (item i q) f h = ap (λ (is : List Item). i ∷ is) (h q f)

  -- two bounds that are at least the bytes left give the same items
  enough : (n m p : ℕ) → length pat ≤ p + n → length pat ≤ p + m → items_from pat n p ≡ items_from pat m p
  enough zero m p h g = none_from zero p (omega arith) ∙ sym (none_from m p (omega arith))
  enough (suc n) zero p h g = none_from (suc n) p (omega arith) ∙ sym (none_from zero p (omega arith))
  enough (suc n) (suc m) p h g =
      ⊎_elim
      (λ l.
      one_from n p l
      ∙ then_same (items_from pat n) (items_from pat m) p (read_item pat p) (read_further p) (λ q f. enough n m q (omega arith) (omega arith))
      ∙ sym (one_from m p l))
      (λ l. none_from (suc n) p l ∙ sym (none_from (suc m) p l)) (order p (length pat))

  pub items_end : (p : ℕ) → length pat ≤ p → items pat p ≡ []
  unfolding items
  items_end p h = none_from (length pat - p) p h

  pub items_at : (p : ℕ) → p < length pat → items pat p ≡ then_items (items pat) (read_item pat p)
  unfolding items
  items_at p h =
      let k : length pat - p ≡ suc (length pat - suc p) = omega arith in
      ap (λ (n : ℕ). items_from pat n p) k ∙ one_from (length pat - suc p) p h
      ∙ then_same (items_from pat (length pat - suc p)) (items pat) p (read_item pat p) (read_further p)
      (λ q f. enough (length pat - suc p) (length pat - q) q (omega arith) (omega arith))

-- ---- A repeat

-- the byte that makes it
abbrev pub IsRepeat : ℕ → Repeat → Type 0
IsRepeat b once = Unit {0}
IsRepeat b optional = b ≡ 63
IsRepeat b star = b ≡ 42
IsRepeat b plus = b ≡ 43
IsRepeat b minus = b ≡ 45

pub is_repeat : (b : ℕ) → IsRepeat b (repeat_of b)
unfolding repeat_of
is_repeat b =
    by_test (IsRepeat b) (eqb b 63) _ _ (λ e. eqb-true b 63 e)
    (λ n. by_test (IsRepeat b) (eqb b 42) _ _ (λ e. eqb-true b 42 e)
    (λ n. by_test (IsRepeat b) (eqb b 43) _ _ (λ e. eqb-true b 43 e)
    (λ n. by_test (IsRepeat b) (eqb b 45) _ _ (λ e. eqb-true b 45 e) (λ n. tt))))
