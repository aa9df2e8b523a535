-- How many records of a stored file differ, and which is the first that does. Assumes nothing.
use Rattle.std.specs.Prelude.{ℕ, Bool, true, false, Option, Some, unwrap_or, eqb}
use Rattle.stored_records.specs.declared.tally.Tally.{Tally}

-- what a record adds to the count of those that differ, by whether it agrees
abbrev pub differing : Bool → ℕ
differing true = 0
differing false = 1

-- which record is the first that differs, if the next one does: while none is counted, no record has set `first`
abbrev pub first_differing : Tally → ℕ
first_differing t = elim (eqb t.differ 0) [ true ↦ t.ran | false ↦ unwrap_or t.first t.ran ]

-- the first record that differs, counted from 0, after one more record, by whether it agrees
abbrev pub first_after : Bool → Tally → Option ℕ
first_after true t = t.first
first_after false t = Some (first_differing t)
