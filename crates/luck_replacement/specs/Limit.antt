-- The code's limit of digits.
-- Assumes nothing.
use Rattle.std.specs.Prelude.{ℕ, Option, Some}
use Rattle.luck_replacement.specs.declared.limit.Limit.{Limit}

-- the count of captures that allows just these digits
abbrev pub as_count : Limit → Option ℕ
as_count limit = Some limit.digit
