-- `luck_token::string::Body::escape_at` meets its contract.
use Rattle.std.specs.Prelude.{None, Some}
use mathlib.Core.Path.{sym, ap, ◌∙◌}
use Prim.Native.Nat.{ℕ, ◌+◌}
use native.Mathlib.Omega.{arith}
use mathlib.Core.List.{[]}
use Rattle.luck_text.specs.Bytes.{is_lua_whitespace}
use Rattle.luck_text.proofs.Bytes.{run_inside}
use Rattle.luck_token.specs.Literal.{piece, escape_piece, whitespace_escape}
use Rattle.luck_token.proofs.Literals.{escape_is, escape_cut, as_piece}
use Rattle.luck_token.proofs.string.Body.escape_at.Goals as goal

pub returns-then-self-next : goal.returns-then-self-next
returns-then-self-next c = let a = c.args in record { is = escape_cut a.self.now.rules a.self.now.text.now a.at c.if-self-next.true; inside = tt }

pub overflow_add-result : goal.overflow_add-result
overflow_add-result c = let a = c.args in omega (arith, c.run-skipped.ensures, run_inside is_lua_whitespace a.self.now.text.now (a.at + 2) (omega arith))

pub returns-in-Simple : goal.returns-in-Simple
unfolding escape_piece
returns-in-Simple c = record { is = escape_is c.args.self.now.rules c.args.self.now.text.now c.args.at c.if-self-next.false _ (sym (ap Some c.in-Simple.is) ∙ c.in_ok-escape.ensures); inside = (omega arith, omega arith) }

pub returns-in-LineBreak : goal.returns-in-LineBreak
unfolding escape_piece
returns-in-LineBreak c = as_piece _ _ (escape_is c.args.self.now.rules c.args.self.now.text.now c.args.at c.if-self-next.false _ (sym (ap Some c.in-LineBreak.is) ∙ c.in_ok-escape.ensures)) c.line_break_escape.ensures

pub returns-in-Hex : goal.returns-in-Hex
unfolding escape_piece
returns-in-Hex c = as_piece _ _ (escape_is c.args.self.now.rules c.args.self.now.text.now c.args.at c.if-self-next.false _ (sym (ap Some c.in-Hex.is) ∙ c.in_ok-escape.ensures)) c.hex_escape.ensures

pub returns-in-Whitespace : goal.returns-in-Whitespace
unfolding escape_piece whitespace_escape
returns-in-Whitespace c =
    let a = c.args in
    record {
      is = ap (λ (n : ℕ). piece [] (2 + n)) c.run-skipped.ensures ∙ escape_is c.args.self.now.rules c.args.self.now.text.now c.args.at c.if-self-next.false _ (sym (ap Some c.in-Whitespace.is) ∙ c.in_ok-escape.ensures);
      inside = (omega arith, omega (arith, c.run-skipped.ensures, run_inside is_lua_whitespace a.self.now.text.now (a.at + 2) (omega arith)));
    }

pub returns-in-Decimal : goal.returns-in-Decimal
unfolding escape_piece
returns-in-Decimal c = as_piece _ _ (escape_is c.args.self.now.rules c.args.self.now.text.now c.args.at c.if-self-next.false _ (sym (ap Some c.in-Decimal.is) ∙ c.in_ok-escape.ensures)) c.decimal_escape.ensures

pub returns-in-Unicode : goal.returns-in-Unicode
unfolding escape_piece
returns-in-Unicode c = as_piece _ _ (escape_is c.args.self.now.rules c.args.self.now.text.now c.args.at c.if-self-next.false _ (sym (ap Some c.in-Unicode.is) ∙ c.in_ok-escape.ensures)) c.unicode_escape.ensures

pub returns-in-Itself : goal.returns-in-Itself
unfolding escape_piece
returns-in-Itself c = record { is = escape_is c.args.self.now.rules c.args.self.now.text.now c.args.at c.if-self-next.false _ (sym (ap Some c.in-Itself.is) ∙ c.in_ok-escape.ensures); inside = (omega arith, omega arith) }

pub returns-in_err-escape : goal.returns-in_err-escape
unfolding escape_piece
returns-in_err-escape c = rw c.from_residual.ensures (record { is = escape_is c.args.self.now.rules c.args.self.now.text.now c.args.at c.if-self-next.false None c.in_err-escape.ensures; inside = tt })
