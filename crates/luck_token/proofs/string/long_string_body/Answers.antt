-- `luck_token::string::long_string_body` meets its contract. Assumes nothing.
use Prim.Native.Nat.{◌-◌}
use native.Mathlib.Omega.{arith}
use lib.ListN.{length}
use Rattle.luck_text.specs.Bytes.{part}
use Rattle.luck_token.proofs.Breaks.{break_inside}
use Rattle.luck_token.proofs.Literals.{stripped}
use Rattle.luck_token.proofs.string.long_string_body.Goals as goal

pub slice_bounds-result-count : goal.slice_bounds-result-count
slice_bounds-result-count c = omega (arith, c.line_break-first.ensures, break_inside c.args.lfcr (part c.args.raw.now c.args.width (length c.args.raw.now - c.args.width)) 0 (omega arith))

pub slice_bounds-result-start : goal.slice_bounds-result-start
slice_bounds-result-start c = omega (arith, c.line_break-first.ensures, break_inside c.args.lfcr (part c.args.raw.now c.args.width (length c.args.raw.now - c.args.width)) 0 (omega arith))

pub returns : goal.returns
returns c = stripped c.args.lfcr (part c.args.raw.now c.args.width (length c.args.raw.now - c.args.width)) c.line_break-first.result c.line_break-first.ensures
