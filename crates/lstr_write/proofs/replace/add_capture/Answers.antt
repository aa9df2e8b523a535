-- `lstr_write::replace::add_capture` meets its contract. Assumes nothing.
use Rattle.std.proofs.Common.{arith}
use Rattle.lstr_item.specs.declared.error.LuaError.TheVariants as error
use Rattle.lstr_write.specs.declared.stop.Stop.TheVariants as stop
use Rattle.lstr_write.proofs.Outputs as outputs
use Rattle.lstr_write.proofs.Replaced as replaced
use Rattle.lstr_write.proofs.replace.add_capture.Goals as goal

pub returns-in-18446744073709551615 : goal.returns-in-18446744073709551615
returns-in-18446744073709551615 c =
    outputs.raises c.args.at c.args.output.now (stop.Raised error.UnfinishedCapture) _ c.requires.0 (replaced.is_opened _ _ c.args.pair.start c.args.pair.len _ c.in-18446744073709551615.is)

pub returns-in-18446744073709551614 : goal.returns-in-18446744073709551614
returns-in-18446744073709551614 c =
    outputs.known_as _ _ _ _ _ _ c.append_decimal.ensures
    (replaced.is_position _ _ c.args.pair.start c.args.pair.len _ (λ e. omega arith) c.in-18446744073709551614.is)

pub returns-in_default : goal.returns-in_default
returns-in_default c =
    outputs.known_as _ _ _ _ _ _ c.append.ensures
    (replaced.is_closed _ _ c.args.pair.start c.args.pair.len _ (λ e. omega arith) (λ e. omega arith))
