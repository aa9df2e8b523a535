-- `luck_format::format::scan_format` meets its contract. Assumes nothing.
use mathlib.Core.Path.{ap, ◌∙◌}
use Prim.Native.Nat.{ℕ, ◌+◌}
use Rattle.luck_answer.specs.Answer.{refused_with}
use Rattle.luck_format.specs.Format.{fault}
use Rattle.luck_format.proofs.Formats as formats
use Rattle.luck_format.proofs.format.scan_format.Goals as goal

pub returns-then-count-ge6-clause-reads : goal.returns-then-count-ge6-clause-reads
returns-then-count-ge6-clause-reads c =
    ap (λ (x : ℕ). fault (refused_with 3 (c.args.at + 5) x)) c.from.ensures ∙ formats.many_flags _ _ _ c.run-count.ensures c.if-count-ge6.true

pub returns-clause-reads : goal.returns-clause-reads
returns-clause-reads c = c.scan_width.ensures.reads ∙ formats.few_flags _ _ _ c.run-count.ensures c.if-count-ge6.false
