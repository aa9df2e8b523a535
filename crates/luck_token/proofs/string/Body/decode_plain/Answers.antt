-- `luck_token::string::Body::decode_plain` meets its contract.
use Rattle.std.specs.Prelude.{Some}
use mathlib.Core.Path.{refl, ◌∙◌}
use native.Mathlib.Omega.{arith}
use lib.ListN.{length}
use Rattle.luck_token.proofs.Values as values
use Rattle.luck_token.proofs.string.Body.decode_plain.Goals as goal

pub returns-then-output-self : goal.returns-then-output-self
returns-then-output-self c =
    let t = values.too_short (Some c.args.self.now.text.now) c.args.output.now (length c.args.self.now.text.now) (c.args.self.now.text.now, refl, refl) (omega arith) in
    record { answer = t.0; output = t.1 }

pub returns : goal.returns
returns c = record { answer = values.fits (Some c.args.self.now.text.now) c.args.output.now (length c.args.self.now.text.now) (c.args.self.now.text.now, refl, refl) (omega arith); output = c.copy.ensures ∙ values.stored_value (Some c.args.self.now.text.now) c.args.output.now (length c.args.self.now.text.now) (c.args.self.now.text.now, refl, refl) (omega arith) }
