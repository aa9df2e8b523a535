-- `lstr_write::replace::add_pieces` meets its contract. The invariant: the pieces from here, behind what is written, make the whole writing. Assumes nothing.
use Rattle.std.proofs.Common.{◌-◌, length}
use Rattle.lstr_item.specs.Inner.{captures_in}
use Rattle.lstr_write.proofs.Replaced as replaced
use Rattle.lstr_write.proofs.replace.add_pieces.Given as goal

abbrev pub invariant-loop-read : goal.invariant-loop-read
invariant-loop-read l =
    replaced.Pieces l.found.subject.now l.found.place l.found.end (captures_in l.found.captures.now) l.is_strict l.replacement l.at l.initial.output l.read l.next l.output

abbrev pub decreases-loop-read : goal.decreases-loop-read
decreases-loop-read l = length l.replacement - l.read
