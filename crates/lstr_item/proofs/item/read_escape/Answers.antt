-- `lstr_item::item::read_escape` meets its contract, a law of `Reading` for each way. Assumes nothing.
use Prim.Native.Nat.{◌+◌, ◌<◌, ◌≤◌}
use mathlib.Core.Logic.{◌⊎◌, inl, inr}
use Rattle.luck_text.specs.Bytes.{byte_at}
use native.Mathlib.Omega.{arith}
use Rattle.lstr_item.proofs.Reading.{escape_last, reference_at, class_at, balance_at, balance_cut}
use Rattle.lstr_item.proofs.item.read_escape.Goals as goal
use Rattle.lstr_item.proofs.item.read_escape.Goals.{in_default-via-then-escape-lt48, in_default-via-else-escape-lt48+else-escape-lt58}

pub returns-then-pattern-at-eq1 : goal.returns-then-pattern-at-eq1
returns-then-pattern-at-eq1 c =
    let a = c.args in
    let pre = c.requires in
    escape_last a.pattern.now a.at pre.0 pre.1 c.if-pattern-at-eq1.true

pub returns-then-pattern-at-lt4 : goal.returns-then-pattern-at-lt4
returns-then-pattern-at-lt4 c =
    let a = c.args in
    let pre = c.requires in
    balance_cut a.pattern.now a.at pre.0 pre.1 (omega arith) c.in-98.is (omega arith)

pub returns-else-pattern-at-lt4 : goal.returns-else-pattern-at-lt4
returns-else-pattern-at-lt4 c =
    let a = c.args in
    let pre = c.requires in
    balance_at a.pattern.now a.at pre.0 pre.1 (omega arith) c.in-98.is (omega arith)

pub returns-in-48-to-57 : goal.returns-in-48-to-57
returns-in-48-to-57 c =
    let a = c.args in
    let pre = c.requires in
    reference_at a.pattern.now a.at pre.0 pre.1 (omega arith) (omega arith) (omega arith)

pub returns-in_default : goal.returns-in_default
returns-in_default c =
    let a = c.args in
    let pre = c.requires in
    let letter : (byte_at a.pattern.now (a.at + 1) < 48) ⊎ (58 ≤ byte_at a.pattern.now (a.at + 1)) =
    elim c.in_default.branch [
      | in_default-via-then-escape-lt48 w ↦ inl (omega arith)
      | in_default-via-else-escape-lt48+else-escape-lt58 w ↦ inr (omega arith)
    ] in
    class_at a.pattern.now a.at pre.0 pre.1 (omega arith) letter (λ e. omega arith) (λ e. omega arith) c.repeated.result c.repeated.ensures
