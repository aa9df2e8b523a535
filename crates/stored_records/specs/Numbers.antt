-- The numbers of a stored file, the low byte first.
-- Assumes nothing.
use Rattle.std.specs.Prelude.{ℕ, ◌+◌, ◌*◌, List}
use Rattle.luck_text.specs.Bytes.{byte_at}

-- of two bytes
abbrev pub short_at : List ℕ → ℕ → ℕ
short_at file p = byte_at file (p + 1) * 0x100 + byte_at file p

-- of four bytes
abbrev pub word_at : List ℕ → ℕ → ℕ
word_at file p = short_at file (p + 2) * 0x10000 + short_at file p
