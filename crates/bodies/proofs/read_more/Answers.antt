-- `bodies::read_more` meets its contract. Assumes nothing.
use Rattle.std.proofs.Common.{◌≡◌, refl, sym, subst, length, rules}
use Rattle.luck_text.specs.Bytes.{part}
use Rattle.luck_lines.specs.Stream.{line_length}
use Rattle.bodies.proofs.Buffers.{kept_in_front, read_on}
use Rattle.bodies.proofs.read_more.Goals as goal

pub finish-requires : goal.finish-requires
finish-requires c =
    let a = c.args in
    let kept = c.keep-kept in
    let read = c.read in
    let held = part a.input.now a.left.at a.left.end in
    record {
      last_line =
          subst (λ x. line_length x ≡ length x)
          (sym (kept_in_front a.input.now kept.new.buffer read.new.buf held kept.result kept.ensures.count kept.ensures.buffer kept.ensures.within))
          c.requires.unended.0;
      room = search rules;
    }

pub returns-in-Ok : goal.returns-in-Ok
returns-in-Ok c =
    let a = c.args in
    let kept = c.keep-kept in
    let read = c.read in
    let held = part a.input.now a.left.at a.left.end in
    record {
      within = search rules;
      goes_on = (refl, read_on a.input.now kept.new.buffer read.new.buf held kept.result c.in-Ok.more kept.ensures.count kept.ensures.buffer kept.ensures.within);
    }
