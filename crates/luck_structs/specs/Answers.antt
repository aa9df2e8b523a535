-- What the struct luck_decoded of include/luck.h stands for, and a count of captures that a caller may know.
-- Assumes nothing.
use Rattle.std.specs.Prelude.{ℕ, Bool, true, false, Option, None, Some}
use Rattle.luck_token.specs.Decode as decode
use Rattle.luck_structs.specs.declared.decoded.Decoded.{Decoded}

abbrev pub decoded_answer : Decoded → decode.Decoding
decoded_answer d = record { number = d.number; offset = d.offset; written = d.written }

-- a count of captures that is known, or none
unfoldable pub count_if : Bool → ℕ → Option ℕ
count_if true captures = Some captures
count_if false captures = None
