-- The errors that Lua raises, by their numbers in include/luck.h.
-- Assumes nothing.
use Rattle.std.specs.Prelude.{ℕ}
use Rattle.lstr_item.specs.declared.error.LuaError.{LuaError}
use Rattle.lstr_item.specs.declared.error.LuaError.TheVariants as raised

abbrev pub kind_of : LuaError → ℕ
kind_of raised.EndsWithPercent = 1
kind_of raised.MissingBracket = 2
kind_of raised.MissingSet = 3
kind_of raised.MissingArguments = 4
kind_of raised.InvalidPatternCapture = 5
kind_of raised.UnfinishedCapture = 6
kind_of raised.InvalidCaptureIndex = 7
kind_of raised.TooManyCaptures = 8
kind_of raised.InvalidPercent = 9
kind_of raised.InvalidReplacementIndex = 10
