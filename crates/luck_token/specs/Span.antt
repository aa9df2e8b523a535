-- Spans of a source, in `u32` (span.rs of luck): what is larger than a `u32` becomes the largest.
-- Assumes nothing.
use Rattle.std.specs.Prelude.{ℕ, ◌+◌, min}
use Rattle.luck_token.specs.declared.span.Span.{Span}

abbrev pub u32_max : ℕ
u32_max = 0xFFFF_FFFF

unfoldable pub span_of : ℕ → ℕ → Span
span_of start end = record { start = min start u32_max; end = min end u32_max }

unfoldable pub shifted_by : Span → ℕ → Span
shifted_by span offset = span_of (span.start + offset) (span.end + offset)
