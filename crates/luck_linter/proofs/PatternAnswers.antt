-- The answers of the check of a pattern.
-- Assumes nothing.
use Rattle.std.specs.Prelude.{Option, None, Some}
use Prim.Native.Nat.{ℕ, ◌+◌, ◌≤◌, ◌<◌}
use native.Mathlib.Omega.{arith}
use mathlib.Core.Path.{◌≡◌, refl, sym, subst}
use mathlib.Core.Logic.{⊎_elim}
use mathlib.Core.Bool.{Bool, true, false, ◌&&◌}
use mathlib.Core.List.{List, [], ◌∷◌}
use lib.Dec.{eqb, ltb}
use lib.ListN.{length, length-append, length-set}
use borrow.Author.Tests.{eqb-true}
use Rattle.luck_text.specs.Bytes.{when◌then◌else◌, byte_at, among}
use Rattle.luck_text.specs.Walk.{Turn}
use Rattle.luck_text.proofs.Cases.{by_test, and_left, and_right, both_true, present}
use Rattle.luck_text.proofs.Among.{Every, every_among}
use Rattle.luck_answer.specs.Answer.{Answer, refused}
use Rattle.luck_linter.specs.Checks.{pattern, numbers}
use Rattle.luck_answer.proofs.Answers.{Stops, walk_every}
use Rattle.luck_linter.proofs.Counts.{Counts, walk_counts, is_walked, Walked}
use Rattle.luck_pattern.proofs.Ranges.{walk_or_39}
use Rattle.luck_pattern.specs.Captures.{latest_open, close_at, close_latest, is_closed, all_closed}
use Rattle.luck_pattern.specs.Reading.{Head, at_open, at_close, at_percent, at_set, at_other, head_of, Escape, esc_digit, esc_balance, esc_frontier, esc_other, esc_end, escape_at, Member, closing_bracket, escaped_member, cut_escape, byte_member, member_at, SetEnd, closes_at, cut_at, unclosed, member_by, member_turn, members_end, first_member, set_end}
use Rattle.luck_pattern.specs.Pattern.{is_empty_set, Scanned, past, fault, closed_as, reversed_of, set_as, set_read, escape_as, escape_read, onward, after_close, head_turn, pattern_turn, pattern_end, pattern_walk}

abbrev AnswerIn : ℕ → Answer → Type 0
AnswerIn len answer = Walked len (numbers (pattern false)) answer

abbrev ReadIn : ℕ → Scanned → Type 0
ReadIn len (past q) = Unit {0}
ReadIn len (fault answer) = AnswerIn len answer

abbrev EndIn : ℕ → SetEnd → Type 0
EndIn len (closes_at p) = Unit {0}
EndIn len (cut_at p) = p < len
EndIn len unclosed = Unit {0}

-- closing a capture counts none
abbrev SameLength : List Bool → Option (List Bool) → Type 0
SameLength captures None = Unit {0}
SameLength captures (Some after) = length after ≡ length captures

close_length : (captures : List Bool) → SameLength captures (close_latest captures)
unfolding close_latest
close_length captures = go (latest_open captures)
  where
    go : (o : Option ℕ) → SameLength captures (close_at captures o)
    go None = tt
    go (Some i) = length-set captures i true

module _ (text : List ℕ) where
  member_in : (p : ℕ) (m : Member) → p < length text → Stops (EndIn (length text)) (member_by m p)
  unfolding member_by
  member_in p closing_bracket h = tt
  member_in p escaped_member h = tt
  member_in p cut_escape h = h
  member_in p byte_member h = tt

  members_in : (p : ℕ) (first : Bool) → p < length text → Stops (EndIn (length text)) (member_turn text p first)
  unfolding member_turn
  members_in p first h = member_in p (member_at text first p) h

  no_member_in : (p : ℕ) (first : Bool) → EndIn (length text) (members_end p first)
  unfolding members_end
  no_member_in p first = tt

  end_in : (p : ℕ) → EndIn (length text) (set_end text p)
  unfolding set_end
  end_in p = walk_every (member_turn text) members_end (length text) (EndIn (length text)) members_in no_member_in (first_member text p) _

  set_as_in : (p : ℕ) (end : SetEnd) → p < length text → EndIn (length text) end → ReadIn (length text) (set_as false text p end)
  unfolding set_as closed_as reversed_of when◌then◌else◌ among
  set_as_in p (closes_at e) h i = tt
  set_as_in p (cut_at e) h i = (omega arith, refl, omega arith)
  set_as_in p unclosed h i = (
    omega arith,
    by_test (λ (n : ℕ). (is_walked (refused n p) && among n (numbers (pattern false))) ≡ true) (is_empty_set text p) 9 8 (λ _. refl) (λ _. refl),
    omega arith,
  )

  set_in : (p : ℕ) → p < length text → ReadIn (length text) (set_read false text p)
  unfolding set_read
  set_in p h = set_as_in p (set_end text p) h (end_in p)

  module _ (p : ℕ) (captures : List Bool) (inside : p < length text) where
    escape_as_in : (e : Escape) → ReadIn (length text) (escape_as false text p captures e)
    unfolding escape_as among
    escape_as_in (esc_digit d) = by_test (ReadIn (length text)) (is_closed captures d) _ _ (λ _. tt) (λ _. (omega arith, refl, omega arith))
    escape_as_in esc_balance = by_test (ReadIn (length text)) (ltb (p + 3) (length text)) _ _ (λ _. tt) (λ _. (omega arith, refl, omega arith))
    escape_as_in esc_frontier =
        by_test (ReadIn (length text)) (eqb (byte_at text (p + 2)) 91) _ _
        (λ e. set_in (p + 2) (present text (p + 2) (omega (arith, eqb-true (byte_at text (p + 2)) 91 e)))) (λ _. (omega arith, refl, omega arith))
    escape_as_in esc_other = tt
    escape_as_in esc_end = (omega arith, refl, omega arith)

    escape_in : ReadIn (length text) (escape_read false text p captures)
    unfolding escape_read
    escape_in = escape_as_in (escape_at text (p + 1))

    abbrev TurnIn : Turn (List Bool) Answer → Type 0
    TurnIn turn = Counts length (AnswerIn (length text)) (length captures) turn

    onward_in : (r : Scanned) → ReadIn (length text) r → TurnIn (onward p captures r)
    unfolding onward
    onward_in (past q) h = omega arith
    onward_in (fault answer) h = h

    close_in : (after : Option (List Bool)) → SameLength captures after → TurnIn (after_close p after)
    unfolding after_close among
    close_in None h = (omega arith, refl, omega arith)
    close_in (Some after) h = omega arith

    head_in : (h : Head) → TurnIn (head_turn false text p captures h)
    unfolding head_turn among
    head_in at_open = by_test TurnIn (ltb (length captures) 32) _ _ (λ _. omega (arith, length-append captures (false ∷ []))) (λ _. (omega arith, refl, omega arith))
    head_in at_close = close_in (close_latest captures) (close_length captures)
    head_in at_percent = onward_in (escape_read false text p captures) escape_in
    head_in at_set = onward_in (set_read false text p) (set_in p inside)
    head_in at_other = omega arith

    turn_in : TurnIn (pattern_turn false text p captures)
    unfolding pattern_turn
    turn_in = head_in (head_of (byte_at text p))

  last_in : (p : ℕ) (captures : List Bool) → length captures ≤ length text → AnswerIn (length text) (pattern_end text p captures)
  unfolding pattern_end among
  last_in p captures h = by_test (AnswerIn (length text)) (all_closed captures) _ _ (λ _. (omega arith, refl, h)) (λ _. (omega arith, refl, omega arith))

  untested_bounded : Walked (length text) (numbers (pattern false)) (pattern_walk false text)
  unfolding pattern_walk
  untested_bounded = walk_counts (pattern_turn false text) (pattern_end text) (length text) length (AnswerIn (length text)) (λ p captures h. turn_in p captures h) last_in [] refl

  -- with the test there is one number more
  all_of_them : Every (λ n. among n (numbers (pattern true)) ≡ true) (numbers (pattern false))
  unfolding among
  all_of_them = (refl, (refl, (refl, (refl, (refl, (refl, (refl, (refl, (refl, (refl, tt))))))))))

  pub tested_too : (answer : Answer) → Walked (length text) (numbers (pattern false)) answer → Walked (length text) (numbers (pattern true)) answer
  tested_too answer w =
      let own = is_walked answer in
      let among_them = among answer.number (numbers (pattern false)) in (
        w.0,
        both_true own (among answer.number (numbers (pattern true))) (and_left own among_them w.1) (every_among (λ n. among n (numbers (pattern true)) ≡ true) (numbers (pattern false)) all_of_them answer.number (and_right own among_them w.1)),
        w.2,
      )

  pub pattern_bounded : (ranges : Bool) → Walked (length text) (numbers (pattern ranges)) (pattern_walk ranges text)
  unfolding among
  pattern_bounded false = untested_bounded
  pattern_bounded true =
      ⊎_elim (λ same. subst (Walked (length text) (numbers (pattern true))) (sym same) (tested_too (pattern_walk false text) untested_bounded))
      (λ r. subst (Walked (length text) (numbers (pattern true))) (sym r.2) (omega (arith, r.1.inside), refl, omega arith))
      (walk_or_39 text)
