-- `lstr_class::subject::byte_before` meets its contract. Assumes nothing.
use mathlib.Core.Path.{◌∙◌}
use Rattle.lstr_class.proofs.Subjects.{before_first, before_later}
use Rattle.lstr_class.proofs.subject.byte_before.Goals as goal

pub returns-then-at-eq0 : goal.returns-then-at-eq0
returns-then-at-eq0 c = before_first c.args.subject.now c.args.at c.if-at-eq0.true

pub returns : goal.returns
returns c = c.byte_at.ensures ∙ before_later c.args.subject.now c.args.at c.if-at-eq0.false
