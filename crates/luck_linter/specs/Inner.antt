-- What the inner functions of the check of a literal promise each other. No public contract rests on these.
-- Assumes nothing.
use Rattle.std.specs.Prelude.{Bool, true, false}
use Rattle.luck_linter.specs.declared.rules.format_string.Escapes.{Escapes}
use Rattle.luck_linter.specs.declared.rules.format_string.Escapes.TheVariants.{Nothing, Plain, Numeric}

-- whether a body has a backslash, and whether one begins an escape that spells a byte by its number
abbrev pub is_some : Escapes → Bool
is_some Nothing = false
is_some Plain = true
is_some Numeric = true

abbrev pub is_numeric : Escapes → Bool
is_numeric Nothing = false
is_numeric Plain = false
is_numeric Numeric = true
