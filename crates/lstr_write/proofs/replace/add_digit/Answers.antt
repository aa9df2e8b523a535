-- `lstr_write::replace::add_digit` meets its contract. Assumes nothing.
use Rattle.lstr_item.specs.declared.error.LuaError.TheVariants as error
use Rattle.lstr_write.specs.declared.stop.Stop.TheVariants as stop
use Rattle.lstr_write.proofs.Outputs as outputs
use Rattle.lstr_write.proofs.Replaced as replaced
use Rattle.lstr_write.proofs.replace.add_digit.Goals as goal

pub returns-then-digit-eq0 : goal.returns-then-digit-eq0
returns-then-digit-eq0 c = outputs.known_as _ _ _ _ _ _ c.append.ensures (replaced.digit_zero _ _ _ _ _ _ _ c.if-digit-eq0.true)

pub returns-then-index-found : goal.returns-then-index-found
returns-then-index-found c =
    outputs.known_as _ _ _ _ _ _ c.add_capture.ensures (replaced.digit_kept _ _ _ _ c.args.found.now.captures.now c.args.digit _ c.if-digit-eq0.false c.if-index-found.true)

pub returns-then-index-eq0 : goal.returns-then-index-eq0
returns-then-index-eq0 c =
    outputs.known_as _ _ _ _ _ _ c.append-then-index-eq0.ensures
    (replaced.digit_one _ _ _ _ c.args.found.now.captures.now c.args.digit _ c.if-digit-eq0.false c.if-index-found.false c.if-index-eq0.true)

pub returns : goal.returns
returns c =
    outputs.raises c.args.at c.args.output.now (stop.Raised error.InvalidReplacementIndex) _ c.requires.0
    (replaced.digit_missing _ _ _ _ c.args.found.now.captures.now c.args.digit _ c.if-digit-eq0.false c.if-index-found.false c.if-index-eq0.false)
