-- What a check answers, in the numbers of documents 01 and 02.
-- Assumes nothing.
use Rattle.std.specs.Prelude.{ℕ, List, Result, Ok, Err}
use Rattle.luck_token.specs.Text.{after_text, text_refusal}
use Rattle.luck_token.specs.declared.text.TextError.{TextError}
use Rattle.luck_answer.specs.declared.answer.Answer.{Answer as AnswerStruct}
use Rattle.luck_answer.specs.declared.format_pattern.PatternError.{PatternError}
use Rattle.luck_answer.specs.declared.format_pattern.PatternError.TheVariants as error
use Rattle.luck_answer.specs.declared.format_pattern.CheckError.{CheckError}
use Rattle.luck_answer.specs.declared.format_pattern.CheckError.TheVariants.{Text, Pattern}

-- number 0: accepted, with the count; else the refusal's number, its byte offset, and as code points the characters
-- that it carries, 0 for none
pub record Answer : Type 0 where
  pub number : ℕ
  pub offset : ℕ
  pub first : ℕ
  pub second : ℕ
  pub count : ℕ

-- the struct luck_answer of include/luck.h
abbrev pub check_answer : AnswerStruct → Answer
check_answer a =
    record { number = a.number; offset = a.offset; first = a.first; second = a.second; count = a.count }

abbrev pub accepted : ℕ → Answer
accepted n = record { number = 0; offset = 0; first = 0; second = 0; count = n }

abbrev pub refused_both : ℕ → ℕ → ℕ → ℕ → Answer
refused_both number offset first second =
    record { number = number; offset = offset; first = first; second = second; count = 0 }

abbrev pub refused_with : ℕ → ℕ → ℕ → Answer
refused_with number offset character = refused_both number offset character 0

abbrev pub refused : ℕ → ℕ → Answer
refused number offset = refused_with number offset 0

-- 25, then 23, then the walk, whose first fault is the answer
unfoldable pub check_text : ℕ → List ℕ → Answer → Answer
check_text version text walked = after_text refused version text walked

-- the code's faults and answers in those numbers
abbrev pub refusal : PatternError → Answer
refusal (error.TruncatedSpecifier o) = refused 1 o
refusal (error.UnknownSpecifier o c) = refused_with 2 o c
refusal (error.BadFlag o c) = refused_with 3 o c
refusal (error.BadWidth o) = refused 4 o
refusal (error.BadPrecision o) = refused 5 o
refusal (error.BadModifier o modifier conversion) = refused_both 6 o modifier conversion
refusal (error.LongSpecifier o) = refused 7 o
refusal (error.UnterminatedSet o) = refused 8 o
refusal (error.EmptySet o) = refused 9 o
refusal (error.BadEscape o c) = refused_with 10 o c
refusal (error.UnmatchedCapture o) = refused 11 o
refusal (error.TooManyCaptures o) = refused 12 o
refusal (error.BadBackReference o) = refused 13 o
refusal (error.InvalidPackOption o c) = refused_with 14 o c
refusal (error.TruncatedPackSize o) = refused 15 o
refusal (error.PackSizeOutOfLimits o) = refused 16 o
refusal (error.BadPackAlignment o) = refused 17 o
refusal (error.VariableLengthPackOption o c) = refused_with 18 o c
refusal (error.LonePercent o) = refused 19 o
refusal (error.BadReplacementEscape o) = refused 20 o
refusal (error.CaptureIndexOutOfRange o) = refused 21 o
refusal (error.BadDateSpecifier o) = refused 22 o
refusal (error.ReversedRange o) = refused 39 o

abbrev pub text_refused : TextError → Answer
text_refused e = text_refusal refused e

abbrev pub walked_of : Result ℕ PatternError → Answer
walked_of (Ok n) = accepted n
walked_of (Err fault) = refusal fault

abbrev pub answer_of : Result ℕ CheckError → Answer
answer_of (Ok n) = accepted n
answer_of (Err (Pattern fault)) = refusal fault
answer_of (Err (Text e)) = text_refused e
