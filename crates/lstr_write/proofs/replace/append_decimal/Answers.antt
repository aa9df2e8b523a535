-- `lstr_write::replace::append_decimal` meets its contract. The invariant: the digits written and those of the number left make the whole. Assumes nothing.
use Prim.Native.Nat.{ℕ}
use native.Mathlib.Omega.{arith}
use mathlib.Core.Path.{refl, ap}
use mathlib.Core.List.{List}
use lib.ListN.{length, take}
use Rattle.lstr_write.specs.Replace.{append}
use Rattle.lstr_write.proofs.Outputs as outputs
use Rattle.lstr_write.proofs.Decimals as decimals
use Rattle.lstr_write.proofs.replace.append_decimal.Goals as goal

pub loop-left-init : goal.loop-left-init
loop-left-init c = decimals.no_digit c.args.number _ refl (omega arith)

pub loop-left-preserved : goal.loop-left-preserved
loop-left-preserved c =
    let l = c.loop-left in
    decimals.one_digit c.args.number l.digits l.first l.left l.invariant c.if-left-eq0.false

pub returns : goal.returns
returns c =
    let a = c.args in
    let l = c.loop-left in
    outputs.known_as _ _ _ _ _ _ c.append.ensures
    (ap (λ (bytes : List ℕ). append (length a.output.now) bytes (take a.at a.output.now))
    (decimals.last_digit a.number l.digits l.first l.left l.invariant c.if-left-eq0.true))
