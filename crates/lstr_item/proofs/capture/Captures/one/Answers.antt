-- `lstr_item::capture::Captures::one` meets its contract. Assumes nothing.
use Rattle.std.proofs.Common.{◌∷◌, replicate, refl, arith}
use Rattle.lstr_item.specs.Inner.{pairs_of}
use Rattle.lstr_item.specs.declared.capture.Pair.{Pair}
use Rattle.lstr_item.proofs.Captures.{EachIn, sound_one}
use Rattle.lstr_item.proofs.capture.Captures.one.Goals as goal

pub returns : goal.returns
unfolding pairs_of
returns c =
    let q : Pair = record { start = c.args.place; len = c.args.len } in
    let each : EachIn c.args.place 1 (q ∷ replicate 31 q) = sound_one c.args.place q (replicate 31 q) (omega arith, λ m. absurd (omega (arith, c.requires))) in
    (refl, record { each = each })
