-- The measures of the functions that call each other: twice what is left of the pattern for do_match, one more for those that go on at the same place.
-- The loops' invariants: what is left, of the pattern or of the places, gives the same outcome.
use Rattle.std.proofs.Common.{◌≡◌, ℕ, ◌+◌, ◌-◌, ◌≤◌, length}
use Rattle.luck_pattern.specs.Items.{items, minus}
use Rattle.lstr_class.specs.Inner.{class_in}
use Rattle.lstr_item.specs.Match.{new_level, reach, max_expand, expand, match}
use Rattle.lstr_item.specs.Inner.{single_of, captures_of}
use Rattle.lstr_item.proofs.Turns as turns
use Rattle.lstr_match.proofs.Repeats.{downwards, upwards}
use Rattle.lstr_match.proofs.matcher.+circle.Given as goal

abbrev pub left : ℕ → ℕ → ℕ
left n p = (n - p) + (n - p)

abbrev pub decreases-do_match : goal.decreases-do_match
decreases-do_match l = left (length l.state.now.pattern.now) l.at

abbrev pub decreases-max_expand : goal.decreases-max_expand
decreases-max_expand l = left (length l.state.now.pattern.now) (l.suffix + 1) + 1

abbrev pub decreases-min_expand : goal.decreases-min_expand
decreases-min_expand l = left (length l.state.now.pattern.now) (l.suffix + 1) + 1

abbrev pub decreases-start_capture : goal.decreases-start_capture
decreases-start_capture l = left (length l.state.now.pattern.now) l.next + 1

abbrev pub decreases-end_capture : goal.decreases-end_capture
decreases-end_capture l = left (length l.state.now.pattern.now) l.next + 1

-- what the items from `at` on give at `place` is the whole
abbrev pub invariant-do_match-items : goal.invariant-do_match-items
invariant-do_match-items l =
    (turns.on (class_in l.state.classes.now) l.state.subject.now l.state.pattern.now l.state.budget l.at l.place (l.level + 1) (captures_of l.captures) l.steps
    ≡ new_level l.level l.fn.steps (λ m. match (class_in l.state.classes.now) l.state.subject.now l.state.budget (items l.state.pattern.now l.fn.at) l.fn.place m (captures_of l.captures) l.fn.steps))
    × ((l.fn.at ≤ l.at) × (l.at ≤ length l.state.pattern.now) × (l.fn.place ≤ l.place) × (l.place ≤ length l.state.subject.now))

abbrev pub decreases-do_match-items : goal.decreases-do_match-items
decreases-do_match-items l = length l.state.pattern.now - l.at

-- the places below `tried` are left
abbrev pub invariant-max_expand-loop-tried : goal.invariant-max_expand-loop-tried
invariant-max_expand-loop-tried l =
    let rest = match (class_in l.state.classes.now) l.state.subject.now l.state.budget (items l.state.pattern.now (l.suffix + 1)) in
    (downwards rest l.shortest l.level (captures_of l.captures) (l.tried - l.shortest) l.steps
    ≡ max_expand (reach (class_in l.state.classes.now) l.state.subject.now l.state.budget (single_of l.state.pattern.now l.at l.suffix) (length l.state.subject.now - (l.place + 1)) (l.place + 1) l.fn.steps) rest l.shortest l.level (captures_of l.captures))
    × ((l.shortest ≤ l.tried) × (l.tried ≤ length l.state.subject.now + 1))

-- `tried` and the places above it are left
abbrev pub invariant-min_expand-loop-after : goal.invariant-min_expand-loop-after
invariant-min_expand-loop-after l =
    let rest = match (class_in l.state.classes.now) l.state.subject.now l.state.budget (items l.state.pattern.now (l.suffix + 1)) in
    (upwards (class_in l.state.classes.now) l.state.subject.now l.state.budget (single_of l.state.pattern.now l.at l.suffix) rest l.level (captures_of l.captures) l.place l.tried l.steps
    ≡ expand (class_in l.state.classes.now) l.state.subject.now l.state.budget (single_of l.state.pattern.now l.at l.suffix) minus rest l.place l.level (captures_of l.captures) l.fn.steps)
    × ((l.place ≤ l.tried) × (l.tried ≤ length l.state.subject.now))

abbrev pub decreases-min_expand-loop-after : goal.decreases-min_expand-loop-after
decreases-min_expand-loop-after l = length l.state.subject.now + 1 - l.tried
