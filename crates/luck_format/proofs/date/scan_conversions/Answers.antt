-- `luck_format::date::scan_conversions` meets its contract. Assumes nothing.
use mathlib.Core.Path.{◌≡◌, sym, ◌∙◌}
use Prim.Native.Nat.{ℕ, ◌<◌}
use native.Mathlib.Omega.{arith}
use mathlib.Core.Bool.{Bool}
use mathlib.Core.List.{List}
use lib.ListN.{length}
use Rattle.luck_answer.specs.Answer.{Answer}
use Rattle.luck_format.proofs.Dates as laws
use Rattle.luck_format.proofs.date.scan_conversions.Goals as goal

-- where a turn begins
here : {options : Bool} {text : List ℕ} {at : ℕ} {whole : Answer} → at < length text → laws.on options text at ≡ whole → laws.Here options text at whole
here there walked = record { there = there; walked = walked }

pub loop-at-init : goal.loop-at-init
loop-at-init c = (omega arith, laws.start _ _)

pub loop-at-preserved-then-text-at-ne37 : goal.loop-at-preserved-then-text-at-ne37
loop-at-preserved-then-text-at-ne37 c = (omega arith, laws.passes_byte (here c.loop-at-test.true c.loop-at.invariant.1) c.if-text-at-ne37.true)

pub returns-then-has_options : goal.returns-then-has_options
returns-then-has_options c = laws.lone_strict (here c.loop-at-test.true c.loop-at.invariant.1) c.if-text-at-ne37.false (omega arith) c.if-has_options.true

pub returns-then-text-at-eq1 : goal.returns-then-text-at-eq1
returns-then-text-at-eq1 c = laws.lone_lenient (here c.loop-at-test.true c.loop-at.invariant.1) c.if-text-at-ne37.false (omega arith) c.if-has_options.false

pub returns-in-None : goal.returns-in-None
returns-in-None c = laws.no_conversion (here c.loop-at-test.true c.loop-at.invariant.1) c.if-text-at-ne37.false (omega arith) (sym c.in-None.ensures.reads)

pub loop-at-preserved : goal.loop-at-preserved
loop-at-preserved c =
    let w = c.in-Some in
    let i = w.ensures.inside in
    (i.1, laws.passes_conversion (here c.loop-at-test.true c.loop-at.invariant.1) c.if-text-at-ne37.false (omega arith) w.width w.ensures.reads i.0 i.1)

pub returns : goal.returns
returns c = laws.at_end _ _ c.loop-at.at c.loop-at-test.false ∙ c.loop-at.invariant.1
