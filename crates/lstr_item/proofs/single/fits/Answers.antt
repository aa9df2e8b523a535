-- `lstr_item::single::fits` meets its contract. Assumes nothing.
use native.Mathlib.Omega.{arith}
use mathlib.Core.Path.{◌∙◌}
use Rattle.lstr_class.specs.Inner.{class_in}
use Rattle.lstr_item.proofs.Singles.{fits_any, fits_class, fits_set, fits_byte, fits_end}
use Rattle.lstr_item.proofs.single.fits.Goals as goal

pub returns-in-46 : goal.returns-in-46
returns-in-46 c = let a = c.args in fits_any (class_in a.state.now.classes.now) a.state.now.subject.now a.state.now.pattern.now a.at a.suffix a.place c.if-place-state.true c.in-46.is

pub returns-in-37 : goal.returns-in-37
returns-in-37 c =
    let a = c.args in
    c.match_class.ensures ∙ fits_class (class_in a.state.now.classes.now) a.state.now.subject.now a.state.now.pattern.now a.at a.suffix a.place c.if-place-state.true c.in-37.is

pub returns-in-91 : goal.returns-in-91
returns-in-91 c =
    let a = c.args in
    c.in_set.ensures ∙ fits_set (class_in a.state.now.classes.now) a.state.now.subject.now a.state.now.pattern.now a.at a.suffix a.place c.if-place-state.true c.in-91.is

pub returns-in_default : goal.returns-in_default
returns-in_default c =
    let a = c.args in
    fits_byte (class_in a.state.now.classes.now) a.state.now.subject.now a.state.now.pattern.now a.at a.suffix a.place c.if-place-state.true (λ e. omega arith) (λ e. omega arith) (λ e. omega arith)

pub returns : goal.returns
returns c = let a = c.args in fits_end (class_in a.state.now.classes.now) a.state.now.subject.now a.state.now.pattern.now a.at a.suffix a.place c.if-place-state.false
