-- `luck_token::string::Body::decode` meets its contract. Assumes nothing.
use Rattle.std.specs.Prelude.{Option}
use mathlib.Core.Path.{ap, ◌∙◌}
use mathlib.Core.List.{List}
use Prim.Native.Nat.{ℕ}
use lib.ListN.{length}
use Rattle.luck_token.specs.Decode.{with_room, decoding_of, output_of}
use Rattle.luck_token.proofs.Values as values
use Rattle.luck_token.proofs.string.Body.decode.Goals as goal

pub returns-then-not-has_special : goal.returns-then-not-has_special
returns-then-not-has_special c =
    let a = c.args in
    let e = values.plain_value a.self.now.long a.self.now.rules a.self.now.text.now (c.has_special.ensures (c.if-not-has_special.true)) in record { answer = c.decode_plain.ensures.answer ∙ ap (λ (o : Option (List ℕ)). decoding_of (with_room (length a.output.now) o)) e; output = c.decode_plain.ensures.output ∙ ap (λ (o : Option (List ℕ)). output_of (with_room (length a.output.now) o) a.output.now) e }
