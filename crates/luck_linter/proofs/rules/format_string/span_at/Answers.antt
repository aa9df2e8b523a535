-- `luck_linter::rules::format_string::span_at` meets its contract. Assumes nothing.
use Rattle.std.proofs.Common.{◌+◌, ap, ◌∙◌}
use Rattle.luck_token.specs.Span.{span_of, shifted_by}
use Rattle.luck_utf8.specs.Utf8.{char_at}
use Rattle.luck_token.specs.declared.span.Span.{Span}
use Rattle.luck_utf8.specs.declared.utf8.Char.{Char}
use Rattle.luck_linter.specs.StringLiteral.{span_at}
use Rattle.luck_linter.proofs.StringLiterals.{same_span, moved_span}
use Rattle.luck_linter.proofs.rules.format_string.span_at.Goals as goal

pub returns : goal.returns
unfolding span_at
returns c =
    let o = c.args.offset in
    let width_of = λ (x : Char). span_of o (o + x.width) in
    let end = c.from_indices.ensures ∙ ap (span_of o) c.saturating_add-end.ensures ∙ same_span o _ in
    let span = end ∙ ap width_of c.char_at-character.ensures in
    c.shifted.ensures ∙ ap (λ (s : Span). shifted_by s c.saturating_add.result) span
    ∙ ap (shifted_by (span_of o (o + (char_at c.args.body.now o).width))) c.saturating_add.ensures
    ∙ moved_span c.args.start o _
