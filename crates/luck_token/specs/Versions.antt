-- The code's versions by their numbers.
-- Assumes nothing.
use Rattle.std.specs.Prelude.{ℕ, ◌≡◌, true, false, Result, MatchResult}
use Rattle.luck_token.specs.Version.{is_version}
use Rattle.luck_token.specs.declared.version.LuaVersion.{LuaVersion}
use Rattle.luck_token.specs.declared.version.LuaVersion.TheVariants.{Lua51, Lua52, Lua53, Lua54, Lua55, Luau}
use Rattle.luck_token.specs.declared.version.UnknownVersion.{UnknownVersion}

abbrev pub number_of : LuaVersion → ℕ
number_of Lua51 = 1
number_of Lua52 = 2
number_of Lua53 = 3
number_of Lua54 = 4
number_of Lua55 = 5
number_of Luau = 6

-- the version of this number, or an error where no version has it
abbrev pub IsVersionOf : ℕ → Result LuaVersion UnknownVersion → Type 0
IsVersionOf number r =
    MatchResult r (λ version. (number_of version ≡ number) × (is_version number ≡ true)) (λ e. is_version number ≡ false)
