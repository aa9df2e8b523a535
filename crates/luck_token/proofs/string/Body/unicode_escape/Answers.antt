-- `luck_token::string::Body::unicode_escape` meets its contract.
use mathlib.Core.Path.{◌≡◌, sym, ◌∙◌}
use Prim.Native.Nat.{ℕ, ◌+◌, ◌≤◌, ◌<◌}
use native.Mathlib.Omega.{arith}
use mathlib.Core.List.{List}
use lib.ListN.{length, drop}
use Rattle.luck_text.specs.Bytes.{byte_at, is_xdigit, run}
use Rattle.luck_text.proofs.Bytes.{run_inside}
use Rattle.luck_text.proofs.Cases.{present}
use Rattle.luck_token.proofs.Literals.{exact, allowed_small, allowed_some, in_width, no_open, no_close, no_code_point, code_point}
use Rattle.luck_token.proofs.string.Body.unicode_escape.Goals as goal

-- after the opening brace, the digits lie in the text
digits_inside : (body : List ℕ) (at count brace : ℕ) → brace ≡ byte_at body (at + 2) → brace ≡ 123 → count ≡ run is_xdigit (drop (at + 3) body)
    → at + 3 + count ≤ length body
digits_inside body at count brace b e n =
    let l : at + 2 < length body = present body (at + 2) (omega arith) in omega (arith, n, run_inside is_xdigit body (at + 3) (omega arith))

-- and the closing brace too
close_inside : (body : List ℕ) (place brace : ℕ) → brace ≡ byte_at body place → brace ≡ 125 → place < length body
close_inside body place brace b e = present body place (omega arith)

pub returns-then-byte_at-ne123 : goal.returns-then-byte_at-ne123
returns-then-byte_at-ne123 c =
    let a = c.args in
    record { is = no_open a.self.now.rules a.self.now.text.now a.at (λ e. c.if-byte_at-ne123.true (c.byte_at.ensures ∙ e)); inside = tt }

pub overflow_add-at-2 : goal.overflow_add-at-2
overflow_add-at-2 c =
    let a = c.args in
    omega (arith, present a.self.now.text.now (a.at + 2) (omega (arith, c.byte_at.ensures)))

pub overflow_add-at-3 : goal.overflow_add-at-3
overflow_add-at-3 c =
    let a = c.args in
    omega (arith, digits_inside a.self.now.text.now a.at c.hex_digits-digits.result.count c.byte_at.result c.byte_at.ensures c.if-byte_at-ne123.false c.hex_digits-digits.ensures.count)

pub overflow_add-at-4 : goal.overflow_add-at-4
overflow_add-at-4 c =
    let a = c.args in
    omega (arith, digits_inside a.self.now.text.now a.at c.hex_digits-digits.result.count c.byte_at.result c.byte_at.ensures c.if-byte_at-ne123.false c.hex_digits-digits.ensures.count)

pub returns-then-byte_at-ne125 : goal.returns-then-byte_at-ne125
returns-then-byte_at-ne125 c =
    let a = c.args in
    let d = c.hex_digits-digits in
    record { is = no_close a.self.now.rules a.self.now.text.now a.at d.result.count d.ensures.count (λ e. c.if-byte_at-ne125.true (c.byte_at-2.ensures ∙ e)); inside = tt }

pub overflow_add-result : goal.overflow_add-result
overflow_add-result c =
    let a = c.args in
    omega (arith, close_inside a.self.now.text.now (a.at + 3 + c.hex_digits-digits.result.count) c.byte_at-2.result c.byte_at-2.ensures c.if-byte_at-ne125.false)

pub returns : goal.returns
unfolding exact
returns c =
    let a = c.args in
    let d = c.hex_digits-digits in
    let allowed = sym c.allows_code_point.ensures ∙ c.if-not-allows_code_point.false in
    let small = allowed_small a.self.now.rules d.result.value d.result.count allowed in
    record {
      is = code_point a.self.now.rules a.self.now.text.now a.at d.result.count d.ensures.count d.result.value d.ensures.value (sym c.byte_at.ensures ∙ c.if-byte_at-ne123.false) (sym c.byte_at-2.ensures ∙ c.if-byte_at-ne125.false) allowed;
      inside = (
        small,
        in_width a.self.now.rules a.self.now.text.now a.at d.result.count d.ensures.count d.result.value d.ensures.value (allowed_some a.self.now.rules d.result.value d.result.count allowed) small,
        (omega arith, omega (arith, close_inside a.self.now.text.now (a.at + 3 + d.result.count) c.byte_at-2.result c.byte_at-2.ensures c.if-byte_at-ne125.false)),
      );
    }

pub returns-then-not-allows_code_point : goal.returns-then-not-allows_code_point
unfolding exact
returns-then-not-allows_code_point c =
    let a = c.args in
    let d = c.hex_digits-digits in
    record {
      is = no_code_point a.self.now.rules a.self.now.text.now a.at d.result.count d.ensures.count d.result.value d.ensures.value (sym c.allows_code_point.ensures ∙ c.if-not-allows_code_point.true);
      inside = tt;
    }
