-- `luck_token::string::Body::write` meets its contract. The invariant has the bytes so far, which the output holds if they fit. A turn that passes over
-- blocks may leave `at` where it was, but sets `singles`; any other turn moves `at` on.
use Rattle.std.specs.Prelude.{Some}
use mathlib.Core.Path.{◌≡◌, refl, sym, ap, subst, ◌∙◌}
use Prim.Native.Nat.{◌+◌}
use native.Mathlib.Omega.{arith}
use mathlib.Core.List.{[]}
use Rattle.luck_token.proofs.Values as values
use Rattle.luck_token.proofs.string.Body.write.Goals as goal

pub loop-at-init : goal.loop-at-init
loop-at-init c = ([], values.read_none _ _ _, record { same = refl; front = λ _. refl })

pub loop-at-preserved-then-singles-eq0 : goal.loop-at-preserved-then-singles-eq0
loop-at-preserved-then-singles-eq0 c =
    let e = c.plain_blocks-end.ensures in
    values.kept_part _ _ _ _ _ _ _ c.loop-at.invariant _ c.plain_blocks-end.result e.0 e.1 e.2 c.put.ensures

pub loop-at-preserved-then-is_plain : goal.loop-at-preserved-then-is_plain
loop-at-preserved-then-is_plain c =
    let a = c.args in
    let is = values.plain_piece a.self.now.long a.self.now.rules a.self.now.text.now c.loop-at.at (sym c.is_plain.ensures ∙ c.if-is_plain.true) in
    values.kept_piece _ _ _ _ _ _ _ c.loop-at.invariant _ _ 1 1 refl is (omega arith, omega (arith, c.loop-at-test.true)) (omega arith) c.put_byte.ensures

pub overflow_add-at-in-Simple : goal.overflow_add-at-in-Simple
overflow_add-at-in-Simple c = omega (arith, (values.seen _ _ _ _ (ap Some c.in-Simple.is) c.in_ok-piece.ensures).inside)

pub loop-at-smaller-in-Simple : goal.loop-at-smaller-in-Simple
loop-at-smaller-in-Simple c = omega (arith, (values.seen _ _ _ _ (ap Some c.in-Simple.is) c.in_ok-piece.ensures).inside)

pub loop-at-preserved-in-Simple : goal.loop-at-preserved-in-Simple
loop-at-preserved-in-Simple c =
    let t = values.seen _ _ _ _ (ap Some c.in-Simple.is) c.in_ok-piece.ensures in
    values.kept_piece _ _ _ _ _ _ _ c.loop-at.invariant _ _ 2 1 refl t.is t.inside (omega arith) c.put_simple.ensures

pub overflow_add-at-in-Byte : goal.overflow_add-at-in-Byte
overflow_add-at-in-Byte c = omega (arith, (values.seen _ _ _ _ (ap Some c.in-Byte.is) c.in_ok-piece.ensures).inside)

pub loop-at-smaller-in-Byte : goal.loop-at-smaller-in-Byte
loop-at-smaller-in-Byte c = omega (arith, (values.seen _ _ _ _ (ap Some c.in-Byte.is) c.in_ok-piece.ensures).inside)

pub loop-at-preserved-in-Byte : goal.loop-at-preserved-in-Byte
loop-at-preserved-in-Byte c =
    let t = values.seen _ _ _ _ (ap Some c.in-Byte.is) c.in_ok-piece.ensures in
    values.kept_piece _ _ _ _ _ _ _ c.loop-at.invariant _ _ _ 1 refl t.is t.inside t.inside.0 c.put_byte-in-Byte.ensures

pub put_char-size-requires : goal.put_char-size-requires
put_char-size-requires c = (values.seen _ _ _ _ (ap Some c.in-Character.is) c.in_ok-piece.ensures).inside.0

pub overflow_add-size-in-Character : goal.overflow_add-size-in-Character
overflow_add-size-in-Character c =
    let t = (values.seen _ _ _ _ (ap Some c.in-Character.is) c.in_ok-piece.ensures).inside in
    omega (arith, c.loop-at.invariant.1.no_more, t.1, t.2.1, c.put_char-size.ensures.0)

pub overflow_add-at-in-Character : goal.overflow_add-at-in-Character
overflow_add-at-in-Character c = omega (arith, (values.seen _ _ _ _ (ap Some c.in-Character.is) c.in_ok-piece.ensures).inside.2)

pub loop-at-smaller-in-Character : goal.loop-at-smaller-in-Character
loop-at-smaller-in-Character c = omega (arith, (values.seen _ _ _ _ (ap Some c.in-Character.is) c.in_ok-piece.ensures).inside.2)

pub loop-at-preserved-in-Character : goal.loop-at-preserved-in-Character
loop-at-preserved-in-Character c =
    let t = values.seen _ _ _ _ (ap Some c.in-Character.is) c.in_ok-piece.ensures in
    let put = c.put_char-size.ensures in
    values.kept_piece _ _ _ _ _ _ _ c.loop-at.invariant _ _ _ _ put.0 t.is t.inside.2 (omega (arith, put.0, t.inside.1)) put.1

pub overflow_add-at-in-Nothing : goal.overflow_add-at-in-Nothing
overflow_add-at-in-Nothing c = omega (arith, (values.seen _ _ _ _ (ap Some c.in-Nothing.is) c.in_ok-piece.ensures).inside)

pub loop-at-smaller : goal.loop-at-smaller
loop-at-smaller c = omega (arith, (values.seen _ _ _ _ (ap Some c.in-Nothing.is) c.in_ok-piece.ensures).inside)

pub loop-at-preserved : goal.loop-at-preserved
loop-at-preserved c =
    let t = values.seen _ _ _ _ (ap Some c.in-Nothing.is) c.in_ok-piece.ensures in
    let a = c.args in
    let e : c.loop-at.size + 0 ≡ c.loop-at.size = omega arith in
    subst (values.Kept a.self.now.long a.self.now.rules a.self.now.text.now a.output.now c.loop-at.output (c.loop-at.at + c.in-Nothing.width)) e
    (values.kept_piece _ _ _ _ _ _ _ c.loop-at.invariant [] _ _ 0 refl t.is t.inside (omega arith) (values.stores_nothing c.loop-at.output c.loop-at.size [] refl))

pub returns-in_err-piece : goal.returns-in_err-piece
returns-in_err-piece c =
    let t = values.kept_bad _ _ _ _ _ _ _ c.loop-at.invariant c.in_err-piece.ensures.is c.loop-at-test.true in
    rw c.from_residual.ensures (record { size = t.0; within = t.1.0; output = t.1.1 })

pub returns : goal.returns
returns c =
    let t = values.kept_end _ _ _ _ _ _ _ c.loop-at.invariant c.loop-at-test.false in
    record { size = t.0; within = t.1.0; output = t.1.1 }
