-- `lstr_write::replace::add_escape` meets its contract. Assumes nothing.
use Rattle.std.proofs.Common.{◌≡◌, false, arith}
use Rattle.luck_text.specs.Bytes.{is_digit}
use Rattle.luck_text.proofs.Bytes.{within, below, above}
use Rattle.lstr_item.specs.declared.error.LuaError.TheVariants as error
use Rattle.lstr_write.specs.declared.stop.Stop.TheVariants as stop
use Rattle.lstr_write.proofs.Outputs as outputs
use Rattle.lstr_write.proofs.Replaced as replaced
use Rattle.lstr_write.proofs.replace.add_escape.Goals as goal
use Rattle.lstr_write.proofs.replace.add_escape.Goals.{in_default-via-then-behind-lt48, in_default-via-else-behind-lt48+else-behind-lt58}

pub returns-in-37 : goal.returns-in-37
returns-in-37 c = outputs.known_as _ _ _ _ _ _ c.append_byte.ensures (replaced.adds_percent _ _ _ _ _ _ _ _ c.in-37.is)

pub returns-in-48-to-57 : goal.returns-in-48-to-57
unfolding is_digit
returns-in-48-to-57 c =
    outputs.known_as _ _ _ _ _ _ c.add_digit.ensures
    (replaced.adds_digit _ _ _ _ _ _ c.args.behind _ (λ e. omega arith) (within 48 57 c.args.behind (omega arith) (omega arith)))

pub returns-in_default : goal.returns-in_default
unfolding is_digit
returns-in_default c =
    let no_digit : is_digit c.args.behind ≡ false =
    elim c.in_default.branch [
      | in_default-via-then-behind-lt48 w ↦ below 48 57 c.args.behind (omega arith)
      | in_default-via-else-behind-lt48+else-behind-lt58 w ↦ above 48 57 c.args.behind (omega arith)
    ] in
    outputs.raises c.args.at c.args.output.now (stop.Raised error.InvalidPercent) _ c.requires
    (replaced.adds_none _ _ _ _ _ _ c.args.behind _ (λ e. omega arith) no_digit c.if-is_strict.true)

pub returns-in_default-2 : goal.returns-in_default-2
unfolding is_digit
returns-in_default-2 c =
    let no_digit : is_digit c.args.behind ≡ false =
    elim c.in_default.branch [
      | in_default-via-then-behind-lt48 w ↦ below 48 57 c.args.behind (omega arith)
      | in_default-via-else-behind-lt48+else-behind-lt58 w ↦ above 48 57 c.args.behind (omega arith)
    ] in
    outputs.known_as _ _ _ _ _ _ c.append_byte-in_default-2.ensures
    (replaced.adds_other _ _ _ _ _ _ c.args.behind _ (λ e. omega arith) no_digit c.if-is_strict.false)
