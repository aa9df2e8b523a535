-- `lstr_item::capture::Captures::keep` meets its contract. Assumes nothing.
use Rattle.std.proofs.Common.{arith}
use Rattle.lstr_item.proofs.Captures.{same_pairs}
use Rattle.lstr_item.proofs.capture.Captures.keep.Goals as goal

pub returns-clause-same : goal.returns-clause-same
returns-clause-same c =
    let s = c.args.self.now in
    let l = c.loop-i in
    same_pairs s.count l.kept s.pairs (omega (arith, l.invariant.0, s.few)) (omega (arith, s.few, s.whole))
    (λ k h. l.invariant.1 k (omega (arith, c.loop-i-test.false)))
