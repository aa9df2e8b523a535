-- `lstr_write::replace::append_byte` meets its contract. Assumes nothing.
use Rattle.lstr_write.proofs.Outputs as outputs
use Rattle.lstr_write.proofs.replace.append_byte.Goals as goal

pub returns-then-at-output : goal.returns-then-at-output
returns-then-at-output c =
    let a = c.args in
    let u = outputs.begins a.at a.output.now c.requires in
    outputs.byte_put a.at a.output.now a.at a.output.now u a.byte c.if-at-output.true

pub returns : goal.returns
returns c =
    let a = c.args in
    let u = outputs.begins a.at a.output.now c.requires in
    outputs.byte_full a.at a.output.now a.at a.output.now u a.byte c.if-at-output.false
