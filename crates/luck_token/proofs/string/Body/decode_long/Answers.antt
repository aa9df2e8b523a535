-- `luck_token::string::Body::decode_long` meets its contract.
use Rattle.luck_token.specs.Literal.{value_of}
use Rattle.luck_token.proofs.Values as values
use Rattle.luck_token.proofs.string.Body.decode_long.Goals as goal

pub returns-in_default : goal.returns-in_default
returns-in_default c =
    let s = c.args.self.now in
    absurd (values.long_value s.rules s.text.now s.long c.requires.0 (values.no_size (value_of s.long s.rules s.text.now) c.in_default.ensures.size))

pub returns : goal.returns
returns c =
    let s = c.args.self.now in
    let o = value_of s.long s.rules s.text.now in
    let size = values.has_size o c.in-Some.n c.in-Some.ensures.size in
    let room = values.in_room c.in-Some.n c.write.result c.in-Some.is c.write.ensures.within c.requires.1 in
    record { answer = values.fits o c.args.output.now c.in-Some.n size room; output = values.written_value o c.args.output.now c.in-Some.n size _ c.write.ensures.output room }
