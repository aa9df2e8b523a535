-- Demand 1: what is promised of every answer of every function of include/luck.h and of every line of `bodies`,
-- whatever is asked, by the records and refusals of documents 01 and 02.
-- Assumes nothing.
use Rattle.std.specs.Prelude.{ℕ, ◌-◌, ◌≤◌, ◌≡◌, ◌↔◌, true, false, List, [], ◌∷◌, length, drop}
use Rattle.luck_text.specs.Bytes.{among}
use Rattle.luck_token.specs.Decode.{Decoding, decode_string, decoding_of, output_of}
use Rattle.luck_answer.specs.Answer.{Answer}
use Rattle.luck_pattern.specs.Pattern.{check_pattern}
use Rattle.luck_replacement.specs.Replacement.{check_replacement}
use Rattle.luck_format.specs.Format.{check_format}
use Rattle.luck_format.specs.Date.{check_date}
use Rattle.luck_pack.specs.Pack.{check_pack}
use Rattle.luck_linter.specs.StringLiteral.{LiteralAnswer, check_literal}
use Rattle.luck_linter.specs.Checks as check
use Rattle.luck_linter.specs.Checks.{numbers, check_of, named_numbers}
use Rattle.luck_line.specs.Line.{line_answer, line_numbers}
use Rattle.lstr_gsub.specs.Gsub.{Report, report, output_after, gsub}
use Rattle.starred.specs.Cases.{Asked, format, pattern, pack, packsize, date, replacement, literal, decode, trial}

-- a check answers one of these numbers to a text of this length: accepted, with a count and nothing else, or refused,
-- with an offset and no count, both at most the length. 25, 30 and 31 have offset 0. The first character comes only
-- with 2, 3, 6, 10, 14 and 18, the second only with 6
pub record ChecksText (allowed : List ℕ) (len : ℕ) (a : Answer) : Type 0 where
  pub numbered : among a.number allowed ≡ true
  pub offset_within : a.offset ≤ len
  pub count_within : a.count ≤ len
  pub accepted_bare : a.number ≡ 0 → (a.offset ≡ 0) × (a.first ≡ 0) × (a.second ≡ 0)
  pub refused_uncounted : (a.number ≡ 0 → ⊥) → a.count ≡ 0
  pub unplaced : among a.number (25 ∷ 30 ∷ 31 ∷ []) ≡ true → a.offset ≡ 0
  pub first_character : among a.number (2 ∷ 3 ∷ 6 ∷ 10 ∷ 14 ∷ 18 ∷ []) ≡ false → a.first ≡ 0
  pub second_character : (a.number ≡ 6 → ⊥) → a.second ≡ 0

-- a literal's answer is such an answer; a skipped literal has nothing else; a span comes exactly with the refusals of
-- its body
pub record ChecksLiteral (allowed : List ℕ) (len : ℕ) (a : LiteralAnswer) : Type 0 where
  pub answers : ChecksText allowed len a.answer
  pub skipped_empty : a.skipped ≡ true
      → a ≡ record {
        skipped = true;
        spanned = false;
        answer = record { number = 0; offset = 0; first = 0; second = 0; count = 0 };
        span = record { start = 0; end = 0 };
      }
  pub spanned_where : (a.spanned ≡ true) ↔ (among a.answer.number (0 ∷ 23 ∷ 25 ∷ 30 ∷ []) ≡ false)
  pub span_of_others : a.spanned ≡ false → a.span ≡ record { start = 0; end = 0 }

-- decoding a text into an output: only 23 has an offset; no more bytes are written than the output and the text have,
-- so an output of the text's length is never too short; refused none are, and in any case the output keeps its length,
-- and what lies behind them is as it was
pub record Decodes (text output : List ℕ) (a : Decoding) (after : List ℕ) : Type 0 where
  pub numbered : among a.number (0 ∷ 23 ∷ 24 ∷ 25 ∷ 26 ∷ []) ≡ true
  pub offset_within : a.offset ≤ length text
  pub offset_of_others : (a.number ≡ 23 → ⊥) → a.offset ≡ 0
  pub in_room : a.written ≤ length output
  pub in_text : a.written ≤ length text
  pub room_enough : length text ≤ length output → a.number ≡ 26 → ⊥
  pub refused_empty : (a.number ≡ 0 → ⊥) → a.written ≡ 0
  pub refused_untouched : (a.number ≡ 0 → ⊥) → after ≡ output
  pub length_kept : length after ≡ length output
  pub behind_untouched : drop a.written after ≡ drop a.written output

-- a trial within a budget and into an output: a kind from 1 to 10 with 29 and only there; no more steps than the
-- budget, all of it with 27; no more bytes than the output has, all of it with 26; with 25 no byte, no replacement and
-- no step; and in any case the output keeps its length, and what lies behind is as it was
pub record Tries (budget : ℕ) (output : List ℕ) (a : Report) (after : List ℕ) : Type 0 where
  pub numbered : among a.number (0 ∷ 25 ∷ 26 ∷ 27 ∷ 28 ∷ 29 ∷ []) ≡ true
  pub kind_of_raised : a.number ≡ 29 → (1 ≤ a.kind) × (a.kind ≤ 10)
  pub kind_of_others : (a.number ≡ 29 → ⊥) → a.kind ≡ 0
  pub steps_within : a.steps ≤ budget
  pub spent_exactly : a.number ≡ 27 → a.steps ≡ budget
  pub in_room : a.written ≤ length output
  pub filled_exactly : a.number ≡ 26 → a.written ≡ length output
  pub nothing_with_25 : a.number ≡ 25 → (a.written ≡ 0) × (a.replacements ≡ 0) × (a.steps ≡ 0)
  pub length_kept : length after ≡ length output
  pub behind_untouched : drop a.written after ≡ drop a.written output

-- by the entry that is asked; the numbers that each check answers are in specs/Checks.antt of luck_linter
abbrev pub Promised : ℕ → Asked → Type 0
Promised version (format text) = ChecksText (numbers check.format) (length text) (check_format version text)
Promised version (pattern text) = ChecksText (numbers (check.pattern true)) (length text) (check_pattern version text)
Promised version (pack text) = ChecksText (numbers (check.pack false)) (length text) (check_pack version false text)
Promised version (packsize text) = ChecksText (numbers (check.pack true)) (length text) (check_pack version true text)
Promised version (date text) = ChecksText (numbers check.date) (length text) (check_date version text)
Promised version (replacement captures text) =
    ChecksText (numbers (check.replacement captures)) (length text) (check_replacement version captures text)
Promised version (literal kind captures start text) =
    ChecksLiteral (named_numbers (check_of kind captures)) (length text)
    (check_literal kind version captures start text)
Promised version (decode text output) =
    let outcome = decode_string version text (length output) in
    Decodes text output (decoding_of outcome) (output_of outcome output)
Promised version (trial sub pat rep budget output) =
    let answer = gsub version pat rep sub budget (length output) in
    Tries budget output (report answer) (output_after output answer)

-- a line of `bodies` answers as a check does, to its body, which stands behind five bytes; 30 and 31 are its own
abbrev pub PromisedLine : List ℕ → Type 0
PromisedLine line = ChecksText line_numbers (length line - 5) (line_answer line)
