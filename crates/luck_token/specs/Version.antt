-- Document 01, "Records": the version numbers, and the rules by version.
-- Assumes nothing.
use Rattle.std.specs.Prelude.{ℕ, Bool, ◌&&◌, List, [], ◌∷◌}
use Rattle.luck_text.specs.Bytes.{between, among}
use Rattle.luck_token.specs.declared.version.Rules.{Rules}

-- 1 to 5 are Lua 5.1 to 5.5, 6 is Luau
unfoldable pub is_version : ℕ → Bool
is_version version = between 1 6 version

-- the rows of the document's table, in its order and by luck's names
pub data Rule : Type 0 where
  strict_escapes : Rule  -- an escape that the manual does not define is an error
  hex_escape : Rule  -- `\x`, `\z`
  unicode_escape : Rule  -- `\u`
  lfcr_line_break : Rule  -- LF CR is one break, and so is a lone CR
  extended_unicode_escape : Rule  -- `\u` limit 7FFFFFFF (hexadecimal)
  unicode_escape_digit_limit : Rule  -- `\u` at most 16 digits
  hex_float_format : Rule  -- `%a %A`
  checked_format_modifiers : Rule  -- `%p`, checked modifiers
  star_format : Rule  -- `%*`
  strict_gsub_replacement : Rule  -- strict replacement, checked date
  date_format_options : Rule  -- date options

unfoldable pub versions : Rule → List ℕ
versions strict_escapes = 2 ∷ 3 ∷ 4 ∷ 5 ∷ []
versions hex_escape = 2 ∷ 3 ∷ 4 ∷ 5 ∷ 6 ∷ []
versions unicode_escape = 3 ∷ 4 ∷ 5 ∷ 6 ∷ []
versions lfcr_line_break = 1 ∷ 2 ∷ 3 ∷ 4 ∷ 5 ∷ []
versions extended_unicode_escape = 4 ∷ 5 ∷ []
versions unicode_escape_digit_limit = 6 ∷ []
versions hex_float_format = 2 ∷ 3 ∷ 4 ∷ 5 ∷ []
versions checked_format_modifiers = 4 ∷ 5 ∷ []
versions star_format = 6 ∷ []
versions strict_gsub_replacement = 2 ∷ 3 ∷ 4 ∷ 5 ∷ 6 ∷ []
versions date_format_options = 2 ∷ 3 ∷ 4 ∷ 5 ∷ []

-- a number that is no version has no rule
unfoldable pub has : Rule → ℕ → Bool
has rule version = is_version version && among version (versions rule)

-- a version's row
unfoldable pub rules_of : ℕ → Rules
rules_of version =
    record {
      strict_escapes = has strict_escapes version;
      hex_escape = has hex_escape version;
      unicode_escape = has unicode_escape version;
      lfcr_line_break = has lfcr_line_break version;
      extended_unicode_escape = has extended_unicode_escape version;
      unicode_escape_digit_limit = has unicode_escape_digit_limit version;
      hex_float_format = has hex_float_format version;
      checked_format_modifiers = has checked_format_modifiers version;
      star_format = has star_format version;
      strict_gsub_replacement = has strict_gsub_replacement version;
      date_format_options = has date_format_options version;
    }
