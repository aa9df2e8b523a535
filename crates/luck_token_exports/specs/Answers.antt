-- Answers that are one number or one record in C, where the definitions of luck_token and luck_utf8 have an option.
-- Assumes nothing.
use Rattle.std.specs.Prelude.{ℕ, true, false, Option, None, Some}
use Rattle.luck_token_exports.specs.declared.Body.{Body}

-- a place, or another number where there is none
abbrev pub place_or : ℕ → Option ℕ → ℕ
place_or other None = other
place_or other (Some p) = p

-- where the text between the quotes starts and ends, zeros where there are no quotes
abbrev pub body_struct : Option (ℕ × ℕ) → Body
body_struct None = record { is_short = false; start = 0; end = 0 }
body_struct (Some (start, end)) = record { is_short = true; start = start; end = end }
