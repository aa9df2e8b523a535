-- `luck_linter::checks::without_ranges` meets its contract. Assumes nothing.
use Rattle.std.proofs.Common.{◌≡◌, Bool, refl}
use Rattle.luck_linter.specs.Checks.{without_ranges, check_meant}
use Rattle.luck_linter.specs.declared.checks.Check.{Check}
use Rattle.luck_linter.specs.declared.checks.Check.TheVariants as variant
use Rattle.luck_linter.proofs.checks.without_ranges.Goals as goal

-- every other check stays
others : (check : Check) → ((ranges : Bool) → check ≡ variant.Pattern ranges → ⊥) → check_meant check ≡ without_ranges (check_meant check)
unfolding without_ranges
others variant.Format h = refl
others (variant.Pattern ranges) h = absurd (h ranges refl)
others variant.Date h = refl
others (variant.Replacement captures) h = refl
others variant.Pack h = refl
others variant.Packsize h = refl

pub returns-in-Pattern : goal.returns-in-Pattern
unfolding without_ranges
returns-in-Pattern c = rw c.in-Pattern.is

pub returns-in_default : goal.returns-in_default
returns-in_default c = others c.args.check c.in_default.not-Pattern
