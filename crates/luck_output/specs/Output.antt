-- What the functions that write to a lent output promise the decoder. No contract of `decode_string` rests on this.
-- Assumes nothing.
use Rattle.std.specs.Prelude.{ℕ, ◌+◌, List, length, leb}
use Rattle.std.proofs.lemmas.List.Edits.{sets}
use Rattle.luck_text.specs.Bytes.{when◌then◌else◌}

-- the output with these bytes at a place, where they fit
unfoldable pub stores : List ℕ → ℕ → List ℕ → List ℕ
stores output p bytes = when leb (p + length bytes) (length output) then sets output p bytes else output
