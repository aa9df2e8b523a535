-- `luck_token::string::Body::decode_pieces` meets its contract.
use mathlib.Core.Path.{sym, ◌∙◌}
use Prim.Native.Nat.{◌≤◌}
use lib.ListN.{length}
use native.Mathlib.Omega.{arith}
use Rattle.luck_token.specs.Literal.{value_of}
use Rattle.luck_token.proofs.Values as values
use Rattle.luck_token.proofs.string.Body.decode_pieces.Goals as goal

pub returns-then-output-n : goal.returns-then-output-n
returns-then-output-n c =
    let a = c.args in
    let o = value_of a.self.now.long a.self.now.rules a.self.now.text.now in
    let g = c.in-Some in
    let t = values.too_short o a.output.now g.n (values.has_size o g.n (sym g.is ∙ c.write.ensures.size)) (omega arith) in
    record { answer = t.0; output = t.1 }

pub returns-then-n-le64 : goal.returns-then-n-le64
returns-then-n-le64 c =
    let a = c.args in
    let w = c.write in
    let g = c.in-Some in
    let o = value_of a.self.now.long a.self.now.rules a.self.now.text.now in
    let size = values.has_size o g.n (sym g.is ∙ w.ensures.size) in
    let room : g.n ≤ length a.output.now = omega arith in record { answer = values.fits o a.output.now g.n size room; output = c.copy.ensures ∙ values.copied_value o a.output.now g.n size _ _ w.ensures.output (omega arith) room }

pub returns-in_default : goal.returns-in_default
returns-in_default c =
    let a = c.args in
    let o = value_of a.self.now.long a.self.now.rules a.self.now.text.now in
    let t = values.undecodable o a.output.now (values.no_size o c.in_default.ensures.size) in
    record { answer = t.0; output = t.1 }

pub returns : goal.returns
returns c =
    let a = c.args in
    let g = c.in-Some in
    let o = value_of a.self.now.long a.self.now.rules a.self.now.text.now in
    let size = values.has_size o g.n (sym g.is ∙ c.write.ensures.size) in
    let room : g.n ≤ length a.output.now = omega arith in
    record { answer = values.fits o a.output.now g.n size room; output = values.written_value o a.output.now g.n size _ c.write-2.ensures.output room }
