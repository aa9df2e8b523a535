-- `luck_utf8::utf8::sequence` meets its contract: the first byte's row. Assumes nothing.
use mathlib.Core.Path.{sym}
use native.Mathlib.Omega.{arith}
use Rattle.luck_utf8.proofs.Sequences.{no_row_high, sequence_past, sequence_none, sequence_ascii}
use Rattle.luck_utf8.proofs.utf8.sequence.Goals as goal

pub returns-then-text-at : goal.returns-then-text-at
returns-then-text-at c = sym (sequence_past c.args.text.now c.args.at c.if-text-at.true)

pub returns-in-0-to-127 : goal.returns-in-0-to-127
returns-in-0-to-127 c =
    sym (sequence_ascii c.args.text.now c.args.at c.if-text-at.false (omega arith))

pub returns-in_default : goal.returns-in_default
returns-in_default c =
    sym (sequence_none c.args.text.now c.args.at c.if-text-at.false (no_row_high _ (omega arith)))
