-- The check of a literal in a source (checkable_body and literal_error of luck's rule format_string), by one of the
-- kind letters of document 01, in the order of point 9 of document 03. F-10 of document 02 says where a pattern's
-- ranges are tested.
-- Assumes nothing.
use Rattle.std.specs.Prelude.{ℕ, ◌+◌, ◌-◌, Bool, true, false, ◌||◌, List, [], ◌∷◌, length, eqb, Option, None, Some}
use Prim.Native.Char.{code}
use Rattle.luck_text.specs.Bytes.{when◌then◌else◌, part, among, is_digit}
use Rattle.luck_token.specs.Version.{rules_of}
use Rattle.luck_utf8.specs.Utf8.{char_at}
use Rattle.luck_token.specs.Literal.{is_short}
use Rattle.luck_token.specs.Span.{span_of}
use Rattle.luck_token.specs.declared.version.Rules.{Rules}
use Rattle.luck_token.specs.declared.span.Span.{Span}
use Rattle.luck_answer.specs.Answer.{Answer, accepted, refused, check_text}
use Rattle.luck_linter.specs.Checks.{Check, check_of, without_ranges, walk_of}
use Rattle.luck_linter.specs.declared.rules.format_string.Literal.{Literal}

-- an escape `\0` to `\9`, `\x` or `\u` could spell a byte that the check reads
unfoldable pub is_numeric_escape : ℕ → Bool
is_numeric_escape b = is_digit b || eqb b (code "x") || eqb b (code "u")

unfoldable pub has_numeric_escape : List ℕ → Bool
has_numeric_escape [] = false
has_numeric_escape (b ∷ []) = false
has_numeric_escape (b ∷ c ∷ more) =
    let pair = is_numeric_escape c || has_numeric_escape more in
    let byte = has_numeric_escape (c ∷ more) in
    when eqb b (code "\\") then pair else byte

abbrev pub has_backslash : List ℕ → Bool
has_backslash body = among (code "\\") body

-- an escape may stand for an end of a range, as in `[\n-a]`, so ranges are not tested in a body with a backslash
unfoldable pub literal_check : Check → List ℕ → Check
literal_check check body = when has_backslash body then without_ranges check else check

-- skipped; or an answer, with a span where it is a refusal of the body
pub record LiteralAnswer : Type 0 where
  pub skipped : Bool
  pub spanned : Bool
  pub answer : Answer
  pub span : Span

-- the struct luck_literal of include/luck.h
abbrev pub literal_answer : Literal → LiteralAnswer
literal_answer l =
    record {
      skipped = l.skipped;
      spanned = l.spanned;
      answer =
          record { number = l.number; offset = l.offset; first = l.first; second = l.second; count = l.count };
      span = record { start = l.start; end = l.end };
    }

abbrev pub skipped_answer : LiteralAnswer
skipped_answer = record { skipped = true; spanned = false; answer = accepted 0; span = record { start = 0; end = 0 } }

abbrev pub unspanned : Answer → LiteralAnswer
unspanned answer = record { skipped = false; spanned = false; answer = answer; span = record { start = 0; end = 0 } }

abbrev pub spanned_answer : Answer → Span → LiteralAnswer
spanned_answer answer span = record { skipped = false; spanned = true; answer = answer; span = span }

-- literal_error: from the literal's start + 1 + offset, one character wide, saturating in `u32`
unfoldable pub span_at : ℕ → List ℕ → ℕ → Span
span_at start body offset = span_of (start + 1 + offset) (start + 1 + offset + (char_at body offset).width)

unfoldable pub with_span : ℕ → List ℕ → Answer → LiteralAnswer
with_span start body answer =
    when eqb answer.number 0 then unspanned answer else spanned_answer answer (span_at start body answer.offset)

-- the body of a short string: what stands between its quotes
abbrev pub body_of : List ℕ → List ℕ
body_of text = part text 1 (length text - 1)

unfoldable pub check_body : Check → Rules → ℕ → List ℕ → LiteralAnswer
check_body check rules start body =
    let walked = with_span start body (walk_of (literal_check check body) rules body) in
    when has_numeric_escape body then skipped_answer else walked

unfoldable pub check_short : Check → Rules → ℕ → List ℕ → LiteralAnswer
check_short check rules start text =
    let body = check_body check rules start (body_of text) in
    when is_short text then body else skipped_answer

-- what comes before every check comes before this one too, without a span; then whether to skip
unfoldable pub check_named_literal : Option Check → ℕ → ℕ → List ℕ → LiteralAnswer
check_named_literal None version start text = unspanned (refused 30 0)
check_named_literal (Some check) version start text =
    let tested = check_text version text (accepted 0) in
    let short = check_short check (rules_of version) start text in
    when eqb tested.number 0 then short else unspanned tested

-- 30, 25, 23, then the body of the text
unfoldable pub check_literal : ℕ → ℕ → Option ℕ → ℕ → List ℕ → LiteralAnswer
check_literal kind version captures start text = check_named_literal (check_of kind captures) version start text
