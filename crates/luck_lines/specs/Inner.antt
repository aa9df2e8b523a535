-- What the inner functions of `feed` promise. No public contract rests on it.
-- Assumes nothing.
use Rattle.std.specs.Prelude.{ℕ, ◌-◌, ◌||◌, ltb}
use Rattle.luck_text.specs.Bytes.{when◌then◌else◌}
use Rattle.luck_line.specs.Line.{longest}
use Rattle.luck_lines.specs.Stream.{too_long}
use Rattle.luck_lines.specs.declared.stream.State.{State}
use Rattle.luck_lines.specs.declared.stream.Fed.{Fed}

-- `unended` of an input of this length
abbrev pub unended_at : ℕ → ℕ → ℕ → State → Fed
unended_at len p wrote s =
    when s.long || ltb longest (len - p) then record { used = len; wrote = wrote; state = too_long s }
    else record { used = p; wrote = wrote; state = s }
