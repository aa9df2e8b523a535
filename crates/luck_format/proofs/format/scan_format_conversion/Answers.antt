-- `luck_format::format::scan_format_conversion` meets its contract. Assumes nothing.
use mathlib.Core.Path.{sym, ap, ap₂, ◌∙◌}
use Prim.Native.Nat.{ℕ}
use Rattle.luck_text.specs.Walk.{stop}
use Rattle.luck_utf8.specs.declared.utf8.Char.{Char}
use Rattle.luck_answer.specs.Answer.{refused_with, refused_both}
use Rattle.luck_format.proofs.Formats as formats
use Rattle.luck_format.proofs.format.scan_format_conversion.Goals as goal
use Rattle.luck_format.proofs.format.scan_format_conversion.Goals.{then-rules+else-good-end, else-rules}

pub returns-then-text-end-clause-turns : goal.returns-then-text-end-clause-turns
returns-then-text-end-clause-turns c = let a = c.args in λ count. formats.cut_off a.rules a.text.now a.at a.end count c.if-text-end.true

pub returns-then-not-is_conversion-clause-turns : goal.returns-then-not-is_conversion-clause-turns
returns-then-not-is_conversion-clause-turns c =
    let a = c.args in
    λ count. ap (λ (x : Char). stop (refused_with 2 a.end x.code)) c.char_at.ensures
    ∙ formats.unknown a.rules a.text.now a.at a.end count c.if-text-end.false (sym c.is_conversion.ensures ∙ c.if-not-is_conversion.true)

pub returns-then-good-end-clause-turns : goal.returns-then-good-end-clause-turns
returns-then-good-end-clause-turns c =
    let a = c.args in
    let f = c.check_format-good in
    λ count. ap₂ (λ (x y : ℕ). stop (refused_both 6 f.result x y)) c.from.ensures c.from-then-good-end.ensures
    ∙ formats.bad_modifier a.rules a.text.now a.at a.end count c.if-text-end.false (sym c.is_conversion.ensures ∙ c.if-not-is_conversion.false) f.result f.ensures c.if-rules.true c.if-good-end.true

pub returns-clause-turns : goal.returns-clause-turns
returns-clause-turns c =
    let a = c.args in
    let h = c.if-text-end.false in
    let k = sym c.is_conversion.ensures ∙ c.if-not-is_conversion.false in
    λ count. elim c.if-rules.branch [
      | then-rules+else-good-end w ↦ formats.good_modifiers_lem a.rules a.text.now a.at a.end count h k w.check_format-good.result w.check_format-good.ensures w.if-rules.true w.if-good-end.false
      | else-rules w ↦ formats.unchecked a.rules a.text.now a.at a.end count h k w.if-rules.false
    ]
