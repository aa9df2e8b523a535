-- A walk over a text, item by item: what the UTF-8 test, the reading of a literal, the end of a set, the checks but
-- that of a replacement, and the taking of lines are, as loops of luck and lstrlib.c.
-- At place p, in state s, `item p s` gives either the answer, or the item's width in bytes and the state after it.
-- Where no bytes are left, `ends` gives the answer. An item that is wider than what is left ends the walk, and one of
-- width 0 counts as one of 1; no definition that uses it has such an item.
-- Assumes nothing.
use Rattle.std.specs.Prelude.{ℕ, zero, suc, ◌-◌}

pub data Turn (S A : Type 0) : Type 0 where
  stop : A → Turn S A
  goes : ℕ → S → Turn S A

module _ {S A : Type 0} (item : ℕ → S → Turn S A) (ends : ℕ → S → A) where
  -- `left` bytes are left, of which `skip` belong to an item that was read already
  unfoldable pub walk : ℕ → ℕ → ℕ → S → A
  walk zero skip p s = ends p s
  walk (suc left) (suc skip) p s = walk left skip (suc p) s
  walk (suc left) zero p s = elim (item p s) [ stop a ↦ a | goes width s' ↦ walk left (width - 1) (suc p) s' ]

  -- from place p on, in a text of this length
  unfoldable pub walk_from : ℕ → ℕ → S → A
  walk_from length p s = walk (length - p) 0 p s
