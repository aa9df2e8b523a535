-- Decoding a literal into a lent output, as document 01 says under the refusals: 25, 23, 24 and 26 are tested in this
-- order, 24 and 26 at offset 0; refused, the output is untouched, else only the value's bytes are written, from the
-- front.
-- Assumes nothing.
use Rattle.std.specs.Prelude.{ℕ, List, length, leb, Option, None, Some, Result, Ok, Err}
use Rattle.luck_text.specs.Bytes.{when◌then◌else◌, in_front}
use Rattle.luck_token.specs.Version.{rules_of}
use Rattle.luck_token.specs.Text.{after_text, text_refusal}
use Rattle.luck_token.specs.Literal.{literal_value}
use Rattle.luck_token.specs.declared.string.DecodeError.{DecodeError}
use Rattle.luck_token.specs.declared.string.DecodeError.TheVariants.{Text, Undecodable, OutputTooShort}

-- the value, or a refusal: its number and its offset
pub data DecodeOutcome : Type 0 where
  value : List ℕ → DecodeOutcome
  refused : ℕ → ℕ → DecodeOutcome

unfoldable pub with_room : ℕ → Option (List ℕ) → DecodeOutcome
with_room room None = refused 24 0
with_room room (Some bytes) = when leb (length bytes) room then value bytes else refused 26 0

unfoldable pub decode_string : ℕ → List ℕ → ℕ → DecodeOutcome
decode_string version raw room = after_text refused version raw (with_room room (literal_value (rules_of version) raw))

-- an answer in document 01's numbers (0: decoded)
pub record Decoding : Type 0 where
  pub number : ℕ
  pub offset : ℕ
  pub written : ℕ

abbrev pub decoding : ℕ → ℕ → ℕ → Decoding
decoding number offset written = record { number = number; offset = offset; written = written }

unfoldable pub decoding_of : DecodeOutcome → Decoding
decoding_of (value bytes) = decoding 0 0 (length bytes)
decoding_of (refused number offset) = decoding number offset 0

-- the code's answer in those numbers
unfoldable pub numbered : Result ℕ DecodeError → Decoding
numbered (Ok n) = decoding 0 0 n
numbered (Err (Text e)) = text_refusal (λ number offset. decoding number offset 0) e
numbered (Err Undecodable) = decoding 24 0 0
numbered (Err OutputTooShort) = decoding 26 0 0

-- the output at the end
unfoldable pub output_of : DecodeOutcome → List ℕ → List ℕ
output_of (value bytes) output = in_front bytes output
output_of (refused number offset) output = output
