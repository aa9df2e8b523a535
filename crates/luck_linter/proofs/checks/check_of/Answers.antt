-- `luck_linter::checks::check_of` meets its contract.
use native.Mathlib.Omega.{arith}
use borrow.Author.Tests.{ne_eqb}
use Rattle.luck_text.specs.Bytes.{when◌then◌else◌}
use Rattle.luck_linter.specs.Checks.{check_of}
use Rattle.luck_linter.proofs.checks.check_of.Goals as goal

pub returns-in-70 : goal.returns-in-70
returns-in-70 c = unfold check_of when◌then◌else◌ in rw c.in-70.is

pub returns-in-80 : goal.returns-in-80
returns-in-80 c = unfold check_of when◌then◌else◌ in rw c.in-80.is

pub returns-in-75 : goal.returns-in-75
returns-in-75 c = unfold check_of when◌then◌else◌ in rw c.in-75.is

pub returns-in-83 : goal.returns-in-83
returns-in-83 c = unfold check_of when◌then◌else◌ in rw c.in-83.is

pub returns-in-71 : goal.returns-in-71
returns-in-71 c = unfold check_of when◌then◌else◌ in rw c.in-71.is

pub returns-in-68 : goal.returns-in-68
returns-in-68 c = unfold check_of when◌then◌else◌ in rw c.in-68.is

pub returns-in_default : goal.returns-in_default
unfolding check_of when◌then◌else◌
returns-in_default c =
    let kind = c.args.kind in
    rw (ne_eqb kind 70 (λ e. omega arith), ne_eqb kind 80 (λ e. omega arith), ne_eqb kind 75 (λ e. omega arith), ne_eqb kind 83 (λ e. omega arith), ne_eqb kind 71 (λ e. omega arith), ne_eqb kind 68 (λ e. omega arith))
