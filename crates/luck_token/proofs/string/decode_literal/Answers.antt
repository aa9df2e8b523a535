-- `luck_token::string::decode_literal` meets its contract.
use Rattle.std.specs.Prelude.{Option}
use mathlib.Core.Path.{sym, ap, ◌∙◌}
use native.Mathlib.Omega.{arith}
use mathlib.Core.Bool.{true}
use mathlib.Core.List.{List}
use Prim.Native.Nat.{ℕ}
use lib.ListN.{length}
use Rattle.luck_token.specs.Literal.{value_of, literal_value}
use Rattle.luck_token.specs.Decode.{with_room, decoding_of, output_of}
use Rattle.luck_token.proofs.Literals.{both_quotes}
use Rattle.luck_token.proofs.Values as values
use Rattle.luck_token.proofs.string.decode_literal.Goals as goal

pub overflow_sub-body : goal.overflow_sub-body
overflow_sub-body c = omega (arith, both_quotes c.args.raw.now (sym c.is_short.ensures ∙ c.if-is_short.true))

pub slice_bounds-body-count : goal.slice_bounds-body-count
slice_bounds-body-count c = omega (arith, both_quotes c.args.raw.now (sym c.is_short.ensures ∙ c.if-is_short.true))

pub slice_bounds-body-start : goal.slice_bounds-body-start
slice_bounds-body-start c = omega (arith, both_quotes c.args.raw.now (sym c.is_short.ensures ∙ c.if-is_short.true))

pub slice_bounds-body-end : goal.slice_bounds-body-end
slice_bounds-body-end c = omega (arith, both_quotes c.args.raw.now (sym c.is_short.ensures ∙ c.if-is_short.true))

pub returns-then-is_short : goal.returns-then-is_short
returns-then-is_short c =
    let e = values.short_literal c.args.rules c.args.raw.now (sym c.is_short.ensures ∙ c.if-is_short.true) in record { answer = c.decode.ensures.answer ∙ ap (λ (o : Option (List ℕ)). decoding_of (with_room (length c.args.output.now) o)) e; output = c.decode.ensures.output ∙ ap (λ (o : Option (List ℕ)). output_of (with_room (length c.args.output.now) o) c.args.output.now) e }

pub returns-in_default : goal.returns-in_default
returns-in_default c =
    let a = c.args in
    let t = values.undecodable (literal_value a.rules a.raw.now) a.output.now (values.no_literal a.rules a.raw.now (omega (arith, c.in_default.ensures)) (sym c.is_short.ensures ∙ c.if-is_short.false)) in
    record { answer = t.0; output = t.1 }

pub long_string_body-requires : goal.long_string_body-requires
long_string_body-requires c =
    let w = c.in-Some.ensures in
    omega (arith, w.0, values.twice_in c.args.rules c.args.raw.now (omega (arith, w.0, w.1)))

pub returns : goal.returns
returns c =
    let a = c.args in
    let w = c.in-Some.ensures in
    let e = ap (value_of true a.rules) c.long_string_body.ensures ∙ values.long_literal a.rules a.raw.now c.in-Some.width w.0 w.1 in
    record { answer = c.decode-2.ensures.answer ∙ ap (λ (o : Option (List ℕ)). decoding_of (with_room (length a.output.now) o)) e; output = c.decode-2.ensures.output ∙ ap (λ (o : Option (List ℕ)). output_of (with_room (length a.output.now) o) a.output.now) e }
