-- `luck_output::output::put_char` meets its contract. Assumes nothing.
use mathlib.Core.Path.{sym, ◌∙◌}
use native.Mathlib.Omega.{arith}
use borrow.Author.Tests.{leb-true, leb-false}
use Rattle.luck_output.proofs.Outputs.{stores_fit, stores_none}
use Rattle.luck_output.proofs.output.put_char.Goals as goal

pub returns-then-fits : goal.returns-then-fits
returns-then-fits c =
    let w = c.write_char.ensures in
    (w.0, w.1 ∙ stores_fit _ _ _ (omega (arith, c.char_width-width.ensures, leb-true _ _ (sym c.fits.ensures ∙ c.if-fits.true))))

pub returns : goal.returns
returns c =
    (c.char_width-width.ensures, stores_none _ _ _ (omega (arith, c.char_width-width.ensures, leb-false _ _ (sym c.fits.ensures ∙ c.if-fits.false))))
