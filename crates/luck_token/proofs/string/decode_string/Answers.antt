-- `luck_token::string::decode_string` meets its contract.
use Rattle.std.proofs.Common.{ap, sym, ◌∙◌, length}
use Rattle.std.proofs.lemmas.Result.{err_from_is_err_and}
use Rattle.luck_token.specs.Decode.{DecodeOutcome, decoding_of, output_of}
use Rattle.luck_token.proofs.Values as values
use Rattle.luck_token.proofs.string.decode_string.Goals as goal

pub returns-in_err-rules : goal.returns-in_err-rules
returns-in_err-rules c =
    let a = c.args in
    let p = err_from_is_err_and c.from_residual.result c.from_residual.ensures.1 in
    let e = values.refused_text a.version a.raw.now (length a.output.now) c.in_err-rules.field-0.0 (sym c.in_err-rules.ensures) in
    record {
      answer = rw (p.1, p.2) (values.refused_answer c.in_err-rules.field-0.0 ∙ ap decoding_of e);
      output = values.refused_output c.in_err-rules.field-0.0 a.output.now ∙ ap (λ (o : DecodeOutcome). output_of o a.output.now) e;
    }

pub returns : goal.returns
returns c =
    let a = c.args in
    let e = values.read_literal a.version a.raw.now (length a.output.now) c.in_ok-rules.rules (sym c.in_ok-rules.ensures) in
    record {
      answer = c.decode_literal.ensures.answer ∙ ap decoding_of e;
      output = c.decode_literal.ensures.output ∙ ap (λ (o : DecodeOutcome). output_of o a.output.now) e;
    }
