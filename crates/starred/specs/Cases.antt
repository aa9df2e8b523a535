-- A case of document 01 or 02: the versions, what is asked, and all that is told, by the definitions that the contracts
-- of the entries name.
-- Assumes nothing.
use Rattle.std.specs.Prelude.{ℕ, true, false, List, [], ◌∷◌, ◌++◌, length, Option}
use Rattle.luck_token.specs.Decode.{Decoding, decode_string, decoding_of, output_of}
use Rattle.luck_answer.specs.Answer.{Answer}
use Rattle.luck_pattern.specs.Pattern.{check_pattern}
use Rattle.luck_replacement.specs.Replacement.{check_replacement}
use Rattle.luck_format.specs.Format.{check_format}
use Rattle.luck_format.specs.Date.{check_date}
use Rattle.luck_pack.specs.Pack.{check_pack}
use Rattle.luck_linter.specs.StringLiteral.{LiteralAnswer, check_literal}
use Rattle.lstr_gsub.specs.Gsub.{Report, report, output_after, gsub}

-- an entry, with what it takes besides the version
pub data Asked : Type 0 where
  format pattern pack packsize date : List ℕ → Asked
  replacement : Option ℕ → List ℕ → Asked  -- the count of captures, the text
  -- the kind letter, the count of captures, the literal's start, its text
  literal : ℕ → Option ℕ → ℕ → List ℕ → Asked
  decode : List ℕ → List ℕ → Asked  -- the text, the output
  -- subject, pattern, replacement, the budget, the output
  trial : List ℕ → List ℕ → List ℕ → ℕ → List ℕ → Asked

-- an answer with all its fields; and the whole output at the end, where one was lent
pub data Told : Type 0 where
  checked : Answer → Told
  checked_literal : LiteralAnswer → Told
  decoded : Decoding → List ℕ → Told
  tried : Report → List ℕ → Told

abbrev pub tell : ℕ → Asked → Told
tell version (format text) = checked (check_format version text)
tell version (pattern text) = checked (check_pattern version text)
tell version (pack text) = checked (check_pack version false text)
tell version (packsize text) = checked (check_pack version true text)
tell version (date text) = checked (check_date version text)
tell version (replacement captures text) = checked (check_replacement version captures text)
tell version (literal kind captures start text) = checked_literal (check_literal kind version captures start text)
tell version (decode text output) =
    let outcome = decode_string version text (length output) in
    decoded (decoding_of outcome) (output_of outcome output)
tell version (trial sub pat rep budget output) =
    let answer = gsub version pat rep sub budget (length output) in
    tried (report answer) (output_after output answer)

-- ---- Answers by their form

-- the check of a literal: a fault with its span; an answer without one; a literal that is skipped
abbrev pub spanned : Answer → ℕ → ℕ → Told
spanned answer start end =
    checked_literal
    (record { skipped = false; spanned = true; answer = answer; span = record { start = start; end = end } })

abbrev pub unspanned : Answer → Told
unspanned answer =
    checked_literal (record { skipped = false; spanned = false; answer = answer; span = record { start = 0; end = 0 } })

abbrev pub skipped : Told
skipped =
    checked_literal
    (record {
      skipped = true;
      spanned = false;
      answer = record { number = 0; offset = 0; first = 0; second = 0; count = 0 };
      span = record { start = 0; end = 0 };
    })

-- decoding: these bytes, and what is left of the output behind them; or a refusal and the output
abbrev pub decoded_value : List ℕ → List ℕ → Told
decoded_value bytes left = decoded (record { number = 0; offset = 0; written = length bytes }) (bytes ++ left)

abbrev pub not_decoded : ℕ → ℕ → List ℕ → Told
not_decoded number offset output = decoded (record { number = number; offset = offset; written = 0 }) output

-- ---- Cases

-- versions
abbrev pub only : ℕ → List ℕ
only version = version ∷ []

abbrev pub after51 : List ℕ
after51 = 2 ∷ 3 ∷ 4 ∷ 5 ∷ 6 ∷ []

abbrev pub every : List ℕ
every = 1 ∷ after51

-- under each of these versions, this is asked and this wanted
pub data Case : Type 0 where
  case : List ℕ → Asked → Told → Case

-- f of each
abbrev pub each : {A B : Type 0} → (A → B) → List A → List B
each f [] = []
each f (a ∷ more) = f a ∷ each f more

-- what is told, and what is wanted, of each case under each of its versions
abbrev pub told : List Case → List Told
told [] = []
told (case versions asked answer ∷ more) = each (λ version. tell version asked) versions ++ told more

abbrev pub wanted : List Case → List Told
wanted [] = []
wanted (case versions asked answer ∷ more) = each (λ version. answer) versions ++ wanted more
