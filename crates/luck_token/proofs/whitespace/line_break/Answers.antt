-- `luck_token::whitespace::line_break` meets its contract.
use native.Mathlib.Omega.{arith}
use Rattle.luck_text.proofs.Cases.{bit}
use Rattle.luck_token.proofs.Breaks as breaks
use Rattle.luck_token.proofs.whitespace.line_break.Goals as goal

pub returns-then-text-at : goal.returns-then-text-at
returns-then-text-at c = let a = c.args in breaks.past_end a.lfcr a.text.now a.at c.if-text-at.true

pub overflow_mul-cr_lf : goal.overflow_mul-cr_lf
overflow_mul-cr_lf c = omega (arith, bit, breaks.bit_of_both)

pub overflow_add-result : goal.overflow_add-result
overflow_add-result c = omega (arith, bit, breaks.bit_of_both)

pub overflow_add-result-then-lfcr : goal.overflow_add-result-then-lfcr
overflow_add-result-then-lfcr c = omega (arith, bit, breaks.bit_of_both)

pub overflow_mul-result : goal.overflow_mul-result
overflow_mul-result c = omega (arith, bit, breaks.bit_of_both)

pub overflow_add-result-then-lfcr-2 : goal.overflow_add-result-then-lfcr-2
overflow_add-result-then-lfcr-2 c = omega (arith, bit, breaks.bit_of_both)

pub returns-then-lfcr : goal.returns-then-lfcr
returns-then-lfcr c =
    let a = c.args in
    rw c.byte_at-next.ensures (breaks.sum_with a.lfcr a.text.now a.at c.if-lfcr.true)

pub overflow_add-result-2 : goal.overflow_add-result-2
overflow_add-result-2 c = omega (arith, bit, breaks.bit_of_both)

pub overflow_add-result-3 : goal.overflow_add-result-3
overflow_add-result-3 c = omega (arith, bit, breaks.bit_of_both)

pub returns : goal.returns
returns c =
    let a = c.args in
    rw c.byte_at-next.ensures (breaks.sum_without a.lfcr a.text.now a.at c.if-lfcr.false)
