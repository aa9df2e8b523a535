-- What the output of a stored record holds after the library was asked. Assumes nothing.
use Rattle.std.specs.Prelude.{ℕ, ◌+◌, ◌-◌, ◌≤◌, ◌≡◌, List, length, eqb, drop}
use Rattle.luck_text.specs.Bytes.{part, run}

-- the stored bytes, and behind them, up to 16 bytes behind the output, what stood there before: F9
pub record Holds (output : List ℕ) (room : ℕ) (stored : List ℕ) : Type 0 where
  pub written : part output 0 (length stored) ≡ stored
  pub untouched : room + 16 - length stored ≤ run (eqb 0xF9) (drop (length stored) output)
