-- Where the bytes that are held lie, and when more may be read after them (the program `bodies` of document 01).
-- Assumes nothing.
use Rattle.std.specs.Prelude.{ℕ, ◌≤◌, ◌<◌, ◌≡◌, List, length, take}
use Rattle.luck_text.specs.Bytes.{part}
use Rattle.luck_lines.specs.Stream.{line_length}
use Rattle.luck_lines.specs.declared.stream.State.{State}
use Rattle.bodies.specs.declared.Held.{Held}

-- in a buffer of this length
abbrev pub HeldWithin : Held → ℕ → Type 0
HeldWithin held length = (held.at ≤ held.end) × (held.end ≤ length)

-- no newline is among the bytes, and a buffer of this length has room for more after them
abbrev pub Unended : List ℕ → ℕ → Type 0
Unended bytes room = (line_length bytes ≡ length bytes) × (length bytes < room)

abbrev pub held_in : Held → List ℕ → List ℕ
held_in held buffer = part buffer held.at held.end

-- these bytes are held, and perhaps others after them, and the next call is handed s
abbrev pub HeldGoesOn : List ℕ → State → Held → List ℕ → Type 0
HeldGoesOn bytes s held buffer = (held.state ≡ s) × (take (length bytes) (held_in held buffer) ≡ bytes)
