-- `luck_text::scan::OneOfClass::has` meets its contract. Assumes nothing.
use mathlib.Core.Path.{refl, sym, ◌∙◌}
use Rattle.luck_text.proofs.Bytes.{among_here, among_later, among_end}
use Rattle.luck_text.proofs.scan.OneOfClass.has.Goals as goal

pub loop-one-init : goal.loop-one-init
loop-one-init c = refl

pub returns-then-one-byte : goal.returns-then-one-byte
returns-then-one-byte c =
    let l = c.loop-one in
    among_here c.args.byte c.args.self.now.0.now l.one-index c.loop-one-test.true (sym c.if-one-byte.true) ∙ l.invariant

pub loop-one-preserved : goal.loop-one-preserved
loop-one-preserved c =
    let l = c.loop-one in
    among_later c.args.byte c.args.self.now.0.now l.one-index c.loop-one-test.true (λ e. c.if-one-byte.false (sym e)) ∙ l.invariant

pub returns : goal.returns
returns c =
    let l = c.loop-one in
    among_end c.args.byte c.args.self.now.0.now l.one-index c.loop-one-test.false ∙ l.invariant
