-- A stored file, record by record. Assumes nothing.
use Rattle.std.specs.Prelude.{ℕ, ◌<◌, ◌≤◌}
use Rattle.stored_records.specs.declared.records.Turn.{Turn}

-- the next record stands behind the one at this place, and not behind a file of this length
pub record Passes (p len : ℕ) (turn : Turn) : Type 0 where
  pub behind : p < turn.next
  pub within : turn.next ≤ len
