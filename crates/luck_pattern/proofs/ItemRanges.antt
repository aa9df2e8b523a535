-- The reversed ranges that the check looks for in an item are those of the set that the matching reads there.
-- Assumes nothing.
use Rattle.std.specs.Prelude.{Option, None, Some}
use Prim.Native.Nat.{ℕ, ◌+◌}
use mathlib.Core.Path.{◌≡◌, refl}
use mathlib.Core.Logic.{◌↔◌}
use mathlib.Core.Bool.{Bool, true, false}
use mathlib.Core.List.{List}
use lib.ListN.{length}
use lib.Dec.{eqb, ltb}
use Rattle.luck_text.specs.Bytes.{when◌then◌else◌, byte_at}
use Rattle.luck_text.proofs.Cases.{by_test}
use Rattle.luck_pattern.specs.Reading.{Head, at_open, at_close, at_percent, at_set, at_other, head_of, Escape, esc_digit, esc_balance, esc_frontier, esc_other, esc_end, escape_at, SetEnd, closes_at, cut_at, unclosed, first_member, set_end}
use Rattle.luck_pattern.specs.Items.{raises, Read, last, set_of, repeated, read_single, read_set, read_frontier, read_escape, read_byte, read_head, read_item}
use Rattle.luck_pattern.specs.Ranges.{escape_set, head_set, item_set, reversed_before, reversed_set, item_reversed, UpwardsItem, item_of}
use Rattle.luck_pattern.proofs.Elements.{none_reversed}

-- no reversed range is found, exactly where each range of what is read runs upwards
abbrev Alike : Option ℕ → Read → Type 0
Alike found read = (found ≡ None) ↔ UpwardsItem (item_of read)

-- nothing is found in what has no set
no_set : (◌≡◌ {A = Option ℕ} None None) ↔ Unit {0}
no_set = (λ e. tt, λ u. refl)

module _ (pat : List ℕ) where
  set_alike : (p : ℕ) (e : SetEnd) → Alike (reversed_before pat p e) (read_set pat p e)
  unfolding reversed_before read_set read_single repeated set_of
  set_alike p (closes_at e) = none_reversed pat e (first_member pat p)
  set_alike p (cut_at e) = no_set
  set_alike p unclosed = no_set

  frontier_alike : (p : ℕ) (e : SetEnd) → Alike (reversed_before pat p e) (read_frontier pat p e)
  unfolding reversed_before read_frontier set_of
  frontier_alike p (closes_at e) = none_reversed pat e (first_member pat p)
  frontier_alike p (cut_at e) = no_set
  frontier_alike p unclosed = no_set

  -- `%f`, with a set at place q or without
  after_frontier : (q : ℕ) (b : Bool)
      → Alike (reversed_set pat (when b then Some q else None)) (when b then read_frontier pat q (set_end pat q) else last (raises 3))
  unfolding reversed_set when◌then◌else◌
  after_frontier q true = frontier_alike q (set_end pat q)
  after_frontier q false = no_set

  escape_alike : (p : ℕ) (e : Escape) → Alike (reversed_set pat (escape_set pat p e)) (read_escape pat p e)
  unfolding escape_set reversed_set read_escape read_single repeated
  escape_alike p esc_end = no_set
  escape_alike p (esc_digit d) = no_set
  escape_alike p esc_balance = by_test (Alike None) (ltb (p + 3) (length pat)) _ _ (λ _. no_set) (λ _. no_set)
  escape_alike p esc_frontier = after_frontier (p + 2) (eqb (byte_at pat (p + 2)) 91)
  escape_alike p esc_other = no_set

  byte_alike : (p : ℕ) → Alike None (read_byte pat p)
  unfolding read_byte read_single repeated
  byte_alike p =
      by_test (Alike None) _ _ _ (λ _. no_set) (λ _. by_test (Alike None) _ _ _ (λ _. no_set) (λ _. no_set))

  head_alike : (p : ℕ) (h : Head) → Alike (reversed_set pat (head_set pat p h)) (read_head pat p h)
  unfolding head_set reversed_set read_head
  head_alike p at_open = by_test (Alike None) _ _ _ (λ _. no_set) (λ _. no_set)
  head_alike p at_close = no_set
  head_alike p at_percent = escape_alike p (escape_at pat (p + 1))
  head_alike p at_set = set_alike p (set_end pat p)
  head_alike p at_other = byte_alike p

  pub item_alike : (p : ℕ) → Alike (item_reversed pat p) (read_item pat p)
  unfolding item_reversed item_set read_item
  item_alike p = head_alike p (head_of (byte_at pat p))
