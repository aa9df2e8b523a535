-- Of the patterns that the check accepts without its test of ranges, it accepts exactly those with it whose items, as the matching reads them, have no
-- reversed range. The check walks over the bytes and the matching runs the items: both come from item to item (Accepted.antt).
-- Assumes nothing.
use Rattle.std.specs.Prelude.{Option, None, Some}
use Prim.Native.Nat.{ℕ, zero, suc, ◌+◌, ◌-◌, ◌≤◌, ◌<◌}
use native.Mathlib.Omega.{arith}
use mathlib.Core.Path.{◌≡◌, refl, sym, ap, ◌∙◌}
use mathlib.Core.Logic.{◌↔◌}
use mathlib.Core.Bool.{Bool, true, false}
use mathlib.Core.List.{List, []}
use lib.ListN.{length}
use lib.Dec.{leb}
use borrow.Author.Tests.{leb-true, leb-false}
use Rattle.luck_text.proofs.Cases.{by_test}
use Rattle.luck_text.proofs.Walk.{walk_end, walk_stop}
use Rattle.luck_answer.specs.Answer.{accepted, refused, check_text}
use Rattle.luck_pattern.specs.Pattern.{pattern_turn, pattern_end, pattern_walk, check_pattern_as, check_pattern}
use Rattle.luck_pattern.specs.Items.{Item, Read, last, item, read_item, then_items, items_from, items}
use Rattle.luck_pattern.specs.Ranges.{item_reversed, UpwardsItem, AllUpwards, item_of}
use Rattle.luck_pattern.proofs.Exactly.{is_39}
use Rattle.luck_pattern.proofs.ItemRanges.{item_alike}
use Rattle.lstr_laws.proofs.Accepted.{refused_accepted, Accepts, Tested, Leads, item_leads, text_accepted, accepts}

module _ (pat : List ℕ) (c : ℕ) where
  -- the check with the test accepts from place p, exactly where every range of these items runs upwards
  abbrev UpwardsFrom : ℕ → List Bool → List Item → Type 0
  UpwardsFrom p flags is = (Tested pat p flags ≡ accepted c) ↔ AllUpwards is

  -- behind the last item the test has nothing to look at
  at_end : (p : ℕ) (flags : List Bool) → length pat ≤ p → Accepts pat c p flags → Tested pat p flags ≡ accepted c
  at_end p flags h a =
      walk_end (pattern_turn true pat) (pattern_end pat) (length pat) p flags h ∙ sym (walk_end (pattern_turn false pat) (pattern_end pat) (length pat) p flags h) ∙ a

  -- an item that is accepted with the test has no reversed range
  none_here : (p : ℕ) (flags : List Bool) → p < length pat → Tested pat p flags ≡ accepted c → item_reversed pat p ≡ None
  none_here p flags h a = go (item_reversed pat p) refl
    where
      go : (o : Option ℕ) → item_reversed pat p ≡ o → item_reversed pat p ≡ None
      go None e = e
      go (Some k) e =
          let stops = walk_stop (pattern_turn true pat) (pattern_end pat) (length pat) p flags (refused 39 k) h ((is_39 pat p flags k h).1 e) in
          refused_accepted (refused 39 k) c (sym stops ∙ a) (omega arith)

  -- an item and those behind it
  read_upwards : (m p : ℕ) (flags : List Bool) → p < length pat → length pat ≤ p + suc m
      → ((q : ℕ) (after : List Bool) → length pat ≤ q + m → Accepts pat c q after → UpwardsFrom q after (items_from pat m q))
      → (r : Read) → (item_reversed pat p ≡ None) ↔ UpwardsItem (item_of r) → Leads pat c p flags r → UpwardsFrom p flags (then_items (items_from pat m) r)
  unfolding then_items
  read_upwards m p flags h l later (last i) alike y = (
    λ a. (alike.0 (none_here p flags h a), tt),
    λ u. y.on.1 (alike.1 u.0) ∙ at_end (length pat) y.after (omega arith) y.on.0,
  )
  read_upwards m p flags h l later (item i q) alike y =
      let rest = later q y.after (omega (arith, y.behind)) y.on.0 in (
        λ a. let n = none_here p flags h a in (alike.0 n, rest.0 (sym (y.on.1 n) ∙ a)),
        λ u. y.on.1 (alike.1 u.0) ∙ rest.1 u.1,
      )

  -- the items from place p on
  from_upwards : (m p : ℕ) (flags : List Bool) → length pat ≤ p + m → Accepts pat c p flags → UpwardsFrom p flags (items_from pat m p)
  unfolding items_from
  from_upwards zero p flags l a = (λ t. tt, λ u. at_end p flags (omega arith) a)
  from_upwards (suc m) p flags l a =
      by_test (UpwardsFrom p flags) (leb (length pat) p) _ _
      (λ e. (λ t. tt, λ u. at_end p flags (leb-true (length pat) p e) a))
      (λ e.
      let h = leb-false (length pat) p e in
      read_upwards m p flags h l (λ q after. from_upwards m q after) (read_item pat p) (item_alike pat p) (item_leads pat c p flags h a))

-- of the patterns that are accepted without the test of ranges, exactly those are accepted with it whose items have no reversed range
pub upwards_items : (version : ℕ) (pat : List ℕ) (n : ℕ) → check_pattern_as false version pat ≡ accepted n
    → (check_pattern version pat ≡ accepted n) ↔ AllUpwards (items pat 0)
unfolding check_pattern check_pattern_as pattern_walk items
upwards_items version pat n ok =
    let without = accepts false version pat n ok in
    let upwards = from_upwards pat n (length pat - 0) 0 [] (omega arith) without in (
      λ e. upwards.0 (text_accepted version pat (pattern_walk true pat) n e),
      λ u. ap (check_text version pat) (upwards.1 u ∙ sym without) ∙ ok,
    )
