-- `luck_linter::rules::format_string::escapes_in` meets its contract. The invariant: whether an escape that spells a byte by its number stands from here
-- on is the whole answer, and the body has a backslash where one was met or stands from here on. Assumes nothing.
use Rattle.std.proofs.Common.{◌≡◌, ◌-◌, ◌≤◌, length, false}
use Rattle.luck_linter.specs.StringLiteral.{has_numeric_escape}
use Rattle.luck_linter.specs.Inner.{is_some, is_numeric}
use Rattle.luck_linter.proofs.StringLiterals as laws
use Rattle.luck_linter.proofs.rules.format_string.escapes_in.Given as goal

abbrev pub invariant-loop-at : goal.invariant-loop-at
invariant-loop-at l = record {
  inside : l.at ≤ length l.body;
  numeric : laws.on l.body l.at ≡ has_numeric_escape l.body;
  met : laws.MetOrLeft l.body (is_some l.found) l.at;
  plain : is_numeric l.found ≡ false;
}

abbrev pub decreases-loop-at : goal.decreases-loop-at
decreases-loop-at l = length l.body - l.at
