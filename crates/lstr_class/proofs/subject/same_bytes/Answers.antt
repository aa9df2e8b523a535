-- `lstr_class::subject::same_bytes` meets its contract. Assumes nothing.
use Rattle.lstr_class.proofs.Subjects.{same_as_ranges}
use Rattle.lstr_class.proofs.subject.same_bytes.Goals as goal

pub returns : goal.returns
returns c = same_as_ranges _ _ _ _ _ c.requires.0 c.requires.1 c.eq.ensures
