-- Demand 1: every answer of every entry, whatever it is asked under whatever version, and of every line of `bodies` is as
-- specs/Promised.antt says.
-- Assumes nothing.
use Prim.Native.Nat.{ℕ}
use mathlib.Core.Bool.{true, false}
use mathlib.Core.List.{List}
use Rattle.luck_pattern.specs.Pattern.{check_pattern}
use Rattle.luck_linter.specs.Checks as check
use Rattle.starred.specs.Cases.{Asked, format, pattern, pack, packsize, date, replacement, literal, decode, trial}
use Rattle.starred.specs.Promised.{Promised, PromisedLine}
use Rattle.starred.proofs.Entries.{checks, checks_literal, decodes, tries, lines}

pub demand_1 : (version : ℕ) (asked : Asked) → Promised version asked
unfolding check_pattern
demand_1 version (format text) = checks check.format version text
demand_1 version (pattern text) = checks (check.pattern true) version text
demand_1 version (pack text) = checks (check.pack false) version text
demand_1 version (packsize text) = checks (check.pack true) version text
demand_1 version (date text) = checks check.date version text
demand_1 version (replacement captures text) = checks (check.replacement captures) version text
demand_1 version (literal kind captures start text) = checks_literal kind captures start version text
demand_1 version (decode text output) = decodes version text output
demand_1 version (trial sub pat rep budget output) = tries version sub pat rep budget output

pub demand_1_of_lines : (line : List ℕ) → PromisedLine line
demand_1_of_lines line = lines line
