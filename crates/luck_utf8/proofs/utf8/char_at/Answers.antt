-- `luck_utf8::utf8::char_at` meets its contract, a law of `Sequences` for each width.
use mathlib.Core.Path.{refl}
use native.Mathlib.Omega.{arith}
use Rattle.luck_utf8.proofs.Sequences.{formed, first_of, first_of_four, char_missing, char_one, char_two}
use Rattle.luck_utf8.proofs.Sequences.{char_three, char_four}
use Rattle.luck_utf8.proofs.utf8.char_at.Goals as goal

pub returns-then-width-eq0 : goal.returns-then-width-eq0
returns-then-width-eq0 c =
    char_missing c.args.text.now c.args.at c.sequence-width.result c.sequence-width.ensures c.if-width-eq0.true

pub bounds-text-at : goal.bounds-text-at
bounds-text-at c = omega (arith, formed _ _ _ c.sequence-width.ensures c.if-width-eq0.false)

pub returns-then-width-eq1 : goal.returns-then-width-eq1
returns-then-width-eq1 c =
    let q = c.sequence-width in
    char_one c.args.text.now c.args.at q.result q.ensures _ c.if-width-eq1.true refl

pub overflow_sub-lead : goal.overflow_sub-lead
overflow_sub-lead c = omega (arith, first_of (formed _ _ _ c.sequence-width.ensures c.if-width-eq0.false) 1 c.if-width-eq2.true)

pub overflow_add-at : goal.overflow_add-at
overflow_add-at c = omega (arith, formed _ _ _ c.sequence-width.ensures c.if-width-eq0.false)

pub with_tail-code-requires : goal.with_tail-code-requires
with_tail-code-requires c = (
  omega (arith, c.type_inv.text c.args.at),
  (formed _ _ _ c.sequence-width.ensures c.if-width-eq0.false).more 1 (omega arith) (omega arith),
)

pub returns-then-width-eq2 : goal.returns-then-width-eq2
returns-then-width-eq2 c =
    let q = c.sequence-width in
    char_two c.args.text.now c.args.at q.result q.ensures c.with_tail-code.result c.if-width-eq2.true c.with_tail-code.ensures.0

pub overflow_sub-lead-then-width-eq3 : goal.overflow_sub-lead-then-width-eq3
overflow_sub-lead-then-width-eq3 c = omega (arith, first_of (formed _ _ _ c.sequence-width.ensures c.if-width-eq0.false) 2 c.if-width-eq3.true)

pub overflow_add-at-then-width-eq3 : goal.overflow_add-at-then-width-eq3
overflow_add-at-then-width-eq3 c = omega (arith, formed _ _ _ c.sequence-width.ensures c.if-width-eq0.false)

pub with_tail-bits-requires : goal.with_tail-bits-requires
with_tail-bits-requires c = (
  omega (arith, c.type_inv.text c.args.at),
  (formed _ _ _ c.sequence-width.ensures c.if-width-eq0.false).more 1 (omega arith) (omega arith),
)

pub overflow_add-at-then-width-eq3-2 : goal.overflow_add-at-then-width-eq3-2
overflow_add-at-then-width-eq3-2 c = omega (arith, formed _ _ _ c.sequence-width.ensures c.if-width-eq0.false)

pub with_tail-code-requires-then-width-eq3 : goal.with_tail-code-requires-then-width-eq3
with_tail-code-requires-then-width-eq3 c = (
  omega (arith, c.type_inv.text c.args.at),
  (formed _ _ _ c.sequence-width.ensures c.if-width-eq0.false).more 2 (omega arith) (omega arith),
)

pub returns-then-width-eq3 : goal.returns-then-width-eq3
returns-then-width-eq3 c =
    let q = c.sequence-width in
    let bits = c.with_tail-bits in
    char_three c.args.text.now c.args.at q.result q.ensures c.with_tail-code-then-width-eq3.result bits.result c.if-width-eq3.true bits.ensures.0
    c.with_tail-code-then-width-eq3.ensures.0

pub overflow_sub-lead-2 : goal.overflow_sub-lead-2
overflow_sub-lead-2 c = omega (arith, first_of_four (formed _ _ _ c.sequence-width.ensures c.if-width-eq0.false) (omega arith))

pub overflow_add-at-2 : goal.overflow_add-at-2
overflow_add-at-2 c = omega (arith, formed _ _ _ c.sequence-width.ensures c.if-width-eq0.false)

pub with_tail-first-requires : goal.with_tail-first-requires
with_tail-first-requires c = (
  omega (arith, c.type_inv.text c.args.at),
  (formed _ _ _ c.sequence-width.ensures c.if-width-eq0.false).more 1 (omega arith) (omega arith),
)

pub overflow_add-at-3 : goal.overflow_add-at-3
overflow_add-at-3 c = omega (arith, formed _ _ _ c.sequence-width.ensures c.if-width-eq0.false)

pub with_tail-bits-requires-2 : goal.with_tail-bits-requires-2
with_tail-bits-requires-2 c = (
  omega (arith, c.type_inv.text c.args.at),
  (formed _ _ _ c.sequence-width.ensures c.if-width-eq0.false).more 2 (omega arith) (omega arith),
)

pub overflow_add-at-4 : goal.overflow_add-at-4
overflow_add-at-4 c = omega (arith, formed _ _ _ c.sequence-width.ensures c.if-width-eq0.false)

pub with_tail-code-requires-2 : goal.with_tail-code-requires-2
with_tail-code-requires-2 c = (
  omega (arith, c.type_inv.text c.args.at),
  (formed _ _ _ c.sequence-width.ensures c.if-width-eq0.false).more 3 (omega arith) (omega arith),
)

pub returns : goal.returns
returns c =
    let q = c.sequence-width in
    let first = c.with_tail-first in
    let bits = c.with_tail-bits-2 in
    char_four c.args.text.now c.args.at q.result q.ensures c.with_tail-code-2.result first.result bits.result (omega arith)
    first.ensures.0 bits.ensures.0 c.with_tail-code-2.ensures.0
