-- How far the numbers go that the code reads.
-- Assumes nothing.
use Rattle.std.specs.Prelude.{ℕ, ◌+◌, ◌*◌, min}

-- 80000000 (hexadecimal) is larger than every limit of a check or an escape, of which 7FFFFFFF is the largest: numbers
-- from here on are not told apart
abbrev pub most : ℕ
most = 0x8000_0000

-- a number with one more digit, of this value
unfoldable pub grown : ℕ → ℕ → ℕ → ℕ
grown value base digit = min (value * base + digit) most
