-- `lstr_write::replace::append` meets its contract. The invariant: the bytes left, behind what is written, make the whole writing. Assumes nothing.
use Rattle.lstr_write.proofs.Outputs as outputs
use Rattle.lstr_write.proofs.replace.append.Given as goal

abbrev pub invariant-loop-byte : goal.invariant-loop-byte
invariant-loop-byte l = outputs.BytesLeft l.at l.initial.output l.bytes l.byte-index l.next l.output
