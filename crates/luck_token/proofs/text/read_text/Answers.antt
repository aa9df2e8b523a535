-- `luck_token::text::read_text` meets its contract.
use Rattle.std.proofs.Common.{ℕ, ap, ◌∙◌}
use Rattle.std.specs.Prelude.{Result, Ok, Err}
use Rattle.std.proofs.lemmas.Result.{err_from_is_err_and}
use Rattle.luck_text.specs.Bytes.{when◌then◌else◌}
use Rattle.luck_token.specs.Version.{rules_of}
use Rattle.luck_token.specs.Text.{read_text, text_error}
use Rattle.luck_token.specs.declared.version.Rules.{Rules}
use Rattle.luck_token.specs.declared.text.TextError.{TextError}
use Rattle.luck_token.proofs.Texts.{text_fine, text_ill_formed, text_unknown_version}
use Rattle.luck_token.proofs.text.read_text.Goals as goal

abbrev refusal : ℕ → ℕ → Result Rules TextError
refusal number place = Err (text_error number place)

pub returns-in_err-version : goal.returns-in_err-version
unfolding read_text when◌then◌else◌
returns-in_err-version c =
    let p = err_from_is_err_and c.from_residual.result c.from_residual.ensures.1 in
    rw (p.1, p.2) (text_unknown_version refusal c.args.version c.args.text.now (Ok (rules_of c.args.version)) c.in_err-version.ensures)

pub returns-in_err-validate : goal.returns-in_err-validate
unfolding read_text when◌then◌else◌
returns-in_err-validate c =
    let p = err_from_is_err_and c.from_residual-in_err-validate.result c.from_residual-in_err-validate.ensures.1 in
    rw (p.1, p.2) (text_ill_formed refusal c.args.version c.args.text.now (Ok (rules_of c.args.version)) c.in_ok-version.ensures.1 c.in_err-validate.field-0.0.at c.in_err-validate.ensures)

pub returns : goal.returns
unfolding read_text
returns c =
    ap Ok (c.rules.ensures ∙ ap rules_of c.in_ok-version.ensures.0)
    ∙ text_fine refusal c.args.version c.args.text.now (Ok (rules_of c.args.version)) c.in_ok-version.ensures.1 c.in_ok-validate.ensures
