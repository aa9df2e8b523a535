-- `luck_utf8::utf8::two` meets its contract: `Left` says what is due after the first byte.
use mathlib.Core.Path.{sym, ap}
use mathlib.Core.Logic.{⊎_elim}
use mathlib.Core.Bool.{not}
use mathlib.Core.List.{List, [], ◌∷◌}
use Prim.Native.Nat.{ℕ, ◌≤◌, ◌<◌}
use native.Mathlib.Omega.{arith}
use lib.ListN.{length}
use Rattle.luck_text.specs.Bytes.{byte_at}
use Rattle.luck_utf8.specs.Utf8.{tail}
use Rattle.luck_text.proofs.Cases.{order}
use Rattle.luck_utf8.proofs.Sequences.{no_row_low, row_two, sequence_none, Left, left_row, left_short}
use Rattle.luck_utf8.proofs.Sequences.{left_out, left_in, left_end}
use Rattle.luck_utf8.proofs.utf8.two.Goals as goal
use Rattle.luck_utf8.proofs.utf8.two.Goals.{then-lead-lt194-via-then-lead-lt194}
use Rattle.luck_utf8.proofs.utf8.two.Goals.{then-lead-lt194-via-else-lead-lt194+then-not-is_tail}

second_due : (text : List ℕ) (at : ℕ) → at < length text → byte_at text at < 0xE0 → 0xC2 ≤ byte_at text at → Left text at 1 2 (tail ∷ [])
second_due text at h b l = left_row h (row_two (byte_at text at) l b)

pub returns-then-text-at-lt2 : goal.returns-then-text-at-lt2
returns-then-text-at-lt2 c =
    let text = c.args.text.now in
    let at = c.args.at in
    ⊎_elim (λ l. sym (sequence_none text at c.requires.0 (no_row_low (byte_at text at) c.requires.1 l)))
    (λ l. left_short (second_due text at c.requires.0 c.requires.2 l) (omega arith)) (order (byte_at text at) 0xC2)

pub returns-then-lead-lt194 : goal.returns-then-lead-lt194
returns-then-lead-lt194 c =
    let text = c.args.text.now in
    let at = c.args.at in
    elim c.then-lead-lt194.branch [
      | then-lead-lt194-via-then-lead-lt194 w ↦
          sym (sequence_none text at c.requires.0 (no_row_low (byte_at text at) c.requires.1 (omega (arith, w.if-lead-lt194.true))))
      | then-lead-lt194-via-else-lead-lt194+then-not-is_tail w ↦
          let due = second_due text at c.requires.0 c.requires.2 (omega (arith, w.if-lead-lt194.false)) in
          left_out due w.is_tail.ensures (ap not w.if-not-is_tail.true)
    ]

pub returns : goal.returns
returns c =
    let due = second_due c.args.text.now c.args.at c.requires.0 c.requires.2 (omega arith) in
    left_end (left_in due c.is_tail.ensures (ap not c.if-not-is_tail.false) (omega arith))
