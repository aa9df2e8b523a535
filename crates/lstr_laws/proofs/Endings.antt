-- How every attempt ends, whatever it is given: its steps are at most its budget; 27 says that they are spent; and a kind from 1 to 10 goes with 29 only.
-- `numbers` are those of a trial that attempts are made for: what an attempt stops with, and the trial's own.
-- Assumes nothing.
use Rattle.std.specs.Prelude.{Option, None, Some}
use Prim.Native.Nat.{ℕ, zero, suc, ◌+◌, ◌-◌, ◌≤◌}
use native.Mathlib.Omega.{arith}
use mathlib.Core.Path.{◌≡◌, refl}
use mathlib.Core.Bool.{Bool, true}
use mathlib.Core.List.{List, [], ◌∷◌}
use lib.ListN.{length, get_or}
use lib.Dec.{eqb, leb, ltb}
use Rattle.luck_text.specs.Bytes.{byte_at, among}
use Rattle.luck_text.proofs.Cases.{by_test}
use Rattle.luck_pattern.specs.Reading.{Head, at_open, at_close, at_percent, at_set, at_other, head_of, Escape, esc_digit, esc_balance, esc_frontier, esc_other, esc_end, escape_at, SetEnd, closes_at, cut_at, unclosed, set_end}
use Rattle.luck_pattern.specs.Items.{
  Single,
  Item,
  start_capture,
  position_capture,
  end_capture,
  end_anchor,
  balance,
  frontier,
  back_reference,
  single,
  raises,
  Read,
  last,
  item,
  repeated,
  read_single,
  read_set,
  read_frontier,
  read_escape,
  read_byte,
  read_head,
  read_item,
  then_items,
  items_from,
  items,
}
use Rattle.lstr_item.specs.Match.{Capture, opened, position, closed, capture_to_close, Outcome, matched, failed, stopped, Rest, do_start_capture, do_end_capture, match_capture, do_back_reference, do_item, match}
pub use Rattle.lstr_laws.proofs.Ending.{Ending, HasStops}
use Rattle.lstr_laws.proofs.Attempts.{AttemptFine, Kept, due_kept, level_kept, single_kept, balance_kept, frontier_kept, closed_kept}

-- ---- The items of a pattern raise kinds 1 to 4

abbrev KindOf : Item → Type 0
KindOf (raises kind) = (1 ≤ kind) × (kind ≤ 10)
KindOf start_capture = Unit {0}
KindOf position_capture = Unit {0}
KindOf end_capture = Unit {0}
KindOf end_anchor = Unit {0}
KindOf (balance x y) = Unit {0}
KindOf (frontier x) = Unit {0}
KindOf (back_reference d) = Unit {0}
KindOf (single x r) = Unit {0}

abbrev pub KindsOf : List Item → Type 0
KindsOf [] = Unit {0}
KindsOf (i ∷ is) = KindOf i × KindsOf is

abbrev ReadKind : Read → Type 0
ReadKind (last i) = KindOf i
ReadKind (item i q) = KindOf i

module _ (pat : List ℕ) where
  single_kind : (x : Single) (q : ℕ) → ReadKind (read_single pat x q)
  unfolding read_single repeated
  single_kind x q = tt

  set_kind : (p : ℕ) (e : SetEnd) → ReadKind (read_set pat p e)
  unfolding read_set
  set_kind p (closes_at e) = single_kind _ (e + 1)
  set_kind p (cut_at e) = (omega arith, omega arith)
  set_kind p unclosed = (omega arith, omega arith)

  frontier_kind : (p : ℕ) (e : SetEnd) → ReadKind (read_frontier pat p e)
  unfolding read_frontier
  frontier_kind p (closes_at e) = tt
  frontier_kind p (cut_at e) = (omega arith, omega arith)
  frontier_kind p unclosed = (omega arith, omega arith)

  escape_kind : (p : ℕ) (e : Escape) → ReadKind (read_escape pat p e)
  unfolding read_escape
  escape_kind p esc_end = (omega arith, omega arith)
  escape_kind p (esc_digit d) = tt
  escape_kind p esc_balance = by_test ReadKind _ _ _ (λ t. tt) (λ t. (omega arith, omega arith))
  escape_kind p esc_frontier = by_test ReadKind _ _ _ (λ t. frontier_kind (p + 2) (set_end pat (p + 2))) (λ t. (omega arith, omega arith))
  escape_kind p esc_other = single_kind _ (p + 2)

  byte_kind : (p : ℕ) → ReadKind (read_byte pat p)
  unfolding read_byte
  byte_kind p = by_test ReadKind _ _ _ (λ t. tt) (λ t. by_test ReadKind _ _ _ (λ t. single_kind _ (p + 1)) (λ t. single_kind _ (p + 1)))

  head_kind : (p : ℕ) (h : Head) → ReadKind (read_head pat p h)
  unfolding read_head
  head_kind p at_open = by_test ReadKind _ _ _ (λ t. tt) (λ t. tt)
  head_kind p at_close = tt
  head_kind p at_percent = escape_kind p (escape_at pat (p + 1))
  head_kind p at_set = set_kind p (set_end pat p)
  head_kind p at_other = byte_kind p

  then_kinds : (rest : ℕ → List Item) → ((q : ℕ) → KindsOf (rest q)) → (r : Read) → ReadKind r → KindsOf (then_items rest r)
  unfolding then_items
  then_kinds rest f (last i) k = (k, tt)
  then_kinds rest f (item i q) k = (k, f q)

  from_kinds : (n p : ℕ) → KindsOf (items_from pat n p)
  unfolding items_from read_item
  from_kinds zero p = tt
  from_kinds (suc n) p =
      by_test KindsOf (leb (length pat) p) _ _ (λ t. tt)
      (λ t. then_kinds (items_from pat n) (from_kinds n) (read_item pat p) (head_kind p (head_of (byte_at pat p))))

  items_kinds : (p : ℕ) → KindsOf (items pat p)
  unfolding items
  items_kinds p = from_kinds (length pat - p) p

-- ---- How an attempt and a trial end

module _ (numbers : List ℕ) (budget : ℕ) where
  -- an ending other than 27 and 29
  pub other : (number u : ℕ) → among number numbers ≡ true → (number ≡ 27 → ⊥) → (number ≡ 29 → ⊥) → Ending numbers budget number 0 u
  other number u m a b = record { numbered = m; spent = λ e. absurd (a e); kinded = λ e. absurd (b e); kindless = λ e. refl }

  pub raising : (kind u : ℕ) → among 29 numbers ≡ true → 1 ≤ kind → kind ≤ 10 → Ending numbers budget 29 kind u
  raising kind u m low high = record { numbered = m; spent = λ e. absurd (omega arith); kinded = λ e. (low, high); kindless = λ e. absurd (e refl) }

module _ (numbers : List ℕ) (has : HasStops numbers) (budget : ℕ) where
  abbrev U : ℕ → Type 0
  U u = u ≤ budget

  abbrev Ends : Outcome → Type 0
  Ends (matched e cs u) = U u
  Ends (failed u) = U u
  Ends (stopped number kind u) = U u × Ending numbers budget number kind u

  -- wrapped, so that the outcome it is said of can be read off
  record Low (o : Outcome) : Type 0 where
    pub ends : Ends o

  raise_low : (kind u : ℕ) → 1 ≤ kind → kind ≤ 10 → U u → Low (stopped 29 kind u)
  raise_low kind u low high h = record { ends = (h, raising numbers budget kind u has.raised low high) }

  abbrev kept : Kept budget Low U
  kept =
      record {
        more = λ u h l. omega arith;
        steps_spent = λ u h b. record { ends = (h, record { numbered = has.spent; spent = λ e. omega arith; kinded = λ e. absurd (omega arith); kindless = λ e. refl }) };
        too_deep = λ u h. record { ends = (h, other numbers budget 28 u has.too_deep (λ e. omega arith) (λ e. omega arith)) };
        fails = λ u h. record { ends = h };
        after_failure = λ u h. h.ends;
      }

  module _ (in_class : ℕ → ℕ → Bool) (sub : List ℕ) where
    abbrev LowRest : Rest → Type 0
    LowRest rest = (s l : ℕ) (cs : List Capture) (u : ℕ) → U u → Low (rest s l cs u)

    module _ (rest : Rest) (low : LowRest rest) where
      start_low : (c : Capture) (s l : ℕ) (cs : List Capture) (u : ℕ) → U u → Low (do_start_capture c rest s l cs u)
      unfolding do_start_capture
      start_low c s l cs u h =
          by_test Low (ltb (length cs) 32) _ _ (λ t. level_kept in_class sub budget Low U kept l u _ h (λ m. low s m _ u h))
          (λ t. raise_low 8 u (omega arith) (omega arith) h)

      end_low : (o : Option ℕ) (s l : ℕ) (cs : List Capture) (u : ℕ) → U u → Low (do_end_capture o rest s l cs u)
      unfolding do_end_capture
      end_low None s l cs u h = raise_low 5 u (omega arith) (omega arith) h
      end_low (Some i) s l cs u h = level_kept in_class sub budget Low U kept l u _ h (λ m. low s m _ u h)

      reference_low : (c : Capture) (s l : ℕ) (cs : List Capture) (u : ℕ) → U u → Low (match_capture sub c rest s l cs u)
      unfolding match_capture
      reference_low (opened start) s l cs u h = raise_low 7 u (omega arith) (omega arith) h
      reference_low (position start) s l cs u h = record { ends = h }
      reference_low (closed start n) s l cs u h = closed_kept in_class sub budget Low U kept rest cs (λ s l u. low s l cs u) start n s l u h

      back_low : (d s l : ℕ) (cs : List Capture) (u : ℕ) → U u → Low (do_back_reference sub d rest s l cs u)
      unfolding do_back_reference
      back_low d s l cs u h =
          by_test Low _ _ _ (λ t. reference_low (get_or cs (d - 1) (opened 0)) s l cs u h) (λ t. raise_low 7 u (omega arith) (omega arith) h)

      item_low : (i : Item) → KindOf i → (s l : ℕ) (cs : List Capture) (u : ℕ) → U u → Low (do_item in_class sub budget i rest s l cs u)
      unfolding do_item
      item_low start_capture k s l cs u h = start_low (opened s) s l cs u h
      item_low position_capture k s l cs u h = start_low (position s) s l cs u h
      item_low end_capture k s l cs u h = end_low (capture_to_close cs) s l cs u h
      item_low end_anchor k s l cs u h = by_test Low (eqb s (length sub)) _ _ (λ t. record { ends = h }) (λ t. record { ends = h })
      item_low (balance x y) k s l cs u h = balance_kept in_class sub budget Low U kept rest cs (λ s l u. low s l cs u) x y s l u h
      item_low (frontier x) k s l cs u h = frontier_kept in_class sub budget Low U kept rest cs (λ s l u. low s l cs u) x s l u h
      item_low (back_reference d) k s l cs u h = back_low d s l cs u h
      item_low (single x r) k s l cs u h = single_kept in_class sub budget Low U kept rest cs (λ s l u. low s l cs u) x r s l u h
      item_low (raises kind) k s l cs u h = raise_low kind u k.0 k.1 h

    match_low : (is : List Item) → KindsOf is → LowRest (match in_class sub budget is)
    unfolding match
    match_low [] k s l cs u h = due_kept in_class sub budget Low U kept u _ h (λ v g. record { ends = g })
    match_low (i ∷ is) k s l cs u h =
        due_kept in_class sub budget Low U kept u _ h
        (λ v g. item_low (match in_class sub budget is) (λ s l cs u. match_low is k.1 s l cs u) i k.0 s l cs v g)

    attempt_low : (o : Outcome) → Low o → AttemptFine U (Ending numbers budget) (λ cs. Unit {0}) o
    attempt_low (matched e cs u) p = (p.ends, tt)
    attempt_low (failed u) p = p.ends
    attempt_low (stopped number kind u) p = p.ends

    -- the matching at place s after u steps, of the items of a pattern from place p on, at any level and with any captures
    pub match_ends : (pat : List ℕ) (p s l : ℕ) (cs : List Capture) (u : ℕ) → u ≤ budget → AttemptFine U (Ending numbers budget) (λ cs. Unit {0}) (match in_class sub budget (items pat p) s l cs u)
    match_ends pat p s l cs u h = attempt_low _ (match_low (items pat p) (items_kinds pat p) s l cs u h)

    -- an attempt at place s after u steps, of the items of a pattern from place p on
    pub attempt_ends : (pat : List ℕ) (p s u : ℕ) → u ≤ budget → AttemptFine U (Ending numbers budget) (λ cs. Unit {0}) (match in_class sub budget (items pat p) s 1 [] u)
    attempt_ends pat p s u h = match_ends pat p s 1 [] u h
