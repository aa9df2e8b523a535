-- `luck_output::output::put` meets its contract. Assumes nothing.
use mathlib.Core.Path.{sym, ◌∙◌}
use borrow.Author.Tests.{leb-true, leb-false}
use Rattle.luck_output.proofs.Outputs.{stores_fit, stores_none}
use Rattle.luck_output.proofs.output.put.Goals as goal

pub returns-then-fits : goal.returns-then-fits
returns-then-fits c = c.copy.ensures ∙ stores_fit _ _ _ (leb-true _ _ (sym c.fits.ensures ∙ c.if-fits.true))

pub returns-else-fits : goal.returns-else-fits
returns-else-fits c = stores_none _ _ _ (leb-false _ _ (sym c.fits.ensures ∙ c.if-fits.false))
