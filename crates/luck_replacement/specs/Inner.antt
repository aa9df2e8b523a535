-- What the inner functions of the check of replacements promise each other. No public contract rests on these.
-- Assumes nothing.
use Rattle.std.specs.Prelude.{ℕ, ◌-◌, Bool, false, not, ◌||◌, eqb, Option}
use Prim.Native.Char.{code}
use Rattle.luck_text.specs.Bytes.{when◌then◌else◌, is_digit}
use Rattle.luck_replacement.specs.Replacement.{allows_digit}

-- some text is refused (F-6): under strict rules, or where the digit 9 is too large
unfoldable pub can_refuse : Bool → Option ℕ → Bool
can_refuse strict count = strict || not (allows_digit count 9)

-- the walk stops at a byte behind a `%`: a digit that is too large, or, under strict rules, neither a digit nor `%`
unfoldable pub is_refused : Bool → Option ℕ → ℕ → Bool
is_refused strict count b =
    when eqb b (code "%") then false
    else when is_digit b then not (allows_digit count (b - code "0")) else strict

-- what such a byte is judged by: a digit by its value; any other byte, `%` included, by 10 under strict rules, which is
-- above every digit, and else by 0
unfoldable pub rank : Bool → ℕ → ℕ
rank strict b = when is_digit b then b - code "0" else when strict then 10 else 0
