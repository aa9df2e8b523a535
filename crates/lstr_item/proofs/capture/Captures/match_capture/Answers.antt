-- `lstr_item::capture::Captures::match_capture` meets its contract. Assumes nothing.
use Prim.Native.Nat.{◌≤◌}
use lib.ListN.{length}
use mathlib.Core.Path.{sym, ◌∙◌}
use native.Mathlib.Omega.{arith}
use Rattle.lstr_item.proofs.Captures.{
  no_digit,
  no_capture,
  refers_open,
  refers_position,
  too_long,
  other_bytes,
  equal_bytes,
}
use Rattle.lstr_item.proofs.capture.Captures.match_capture.Goals as goal

pub returns-then-digit-eq0 : goal.returns-then-digit-eq0
returns-then-digit-eq0 c = (λ rest l u. no_digit _ _ _ _ rest _ l u c.if-digit-eq0.true, tt)

pub returns-then-self-index : goal.returns-then-self-index
returns-then-self-index c =
    let few : c.args.self.now.count ≤ length c.args.self.now.pairs = omega (arith, c.args.self.now.few, c.args.self.now.whole) in
    (λ rest l u. no_capture _ _ _ _ rest _ l u few c.if-digit-eq0.false c.if-self-index.true, tt)

pub returns-then-len : goal.returns-then-len
returns-then-len c =
    let few : c.args.self.now.count ≤ length c.args.self.now.pairs = omega (arith, c.args.self.now.few, c.args.self.now.whole) in
    (λ rest l u. refers_open _ _ _ _ rest _ l u few c.if-digit-eq0.false c.if-self-index.false c.if-len.true, tt)

pub returns-then-len-2 : goal.returns-then-len-2
returns-then-len-2 c =
    let few : c.args.self.now.count ≤ length c.args.self.now.pairs = omega (arith, c.args.self.now.few, c.args.self.now.whole) in
    (λ rest l u. refers_position _ _ _ _ rest _ l u few c.if-digit-eq0.false c.if-self-index.false c.if-len-2.true, tt)

pub returns-then-subject-place : goal.returns-then-subject-place
returns-then-subject-place c =
    let few : c.args.self.now.count ≤ length c.args.self.now.pairs = omega (arith, c.args.self.now.few, c.args.self.now.whole) in
    (λ rest l u. too_long _ _ _ _ rest _ l u few c.if-digit-eq0.false c.if-self-index.false c.if-len.false c.if-len-2.false c.if-subject-place.true, tt)

pub returns-then-same_bytes : goal.returns-then-same_bytes
returns-then-same_bytes c =
    let few : c.args.self.now.count ≤ length c.args.self.now.pairs = omega (arith, c.args.self.now.few, c.args.self.now.whole) in (
      λ rest l u.
          equal_bytes _ _ _ _ rest _ l u few c.if-digit-eq0.false c.if-self-index.false c.if-len.false c.if-len-2.false c.if-subject-place.false
          (sym c.same_bytes.ensures ∙ c.if-same_bytes.true),
      omega arith,
    )

pub returns : goal.returns
returns c =
    let few : c.args.self.now.count ≤ length c.args.self.now.pairs = omega (arith, c.args.self.now.few, c.args.self.now.whole) in (
      λ rest l u.
          other_bytes _ _ _ _ rest _ l u few c.if-digit-eq0.false c.if-self-index.false c.if-len.false c.if-len-2.false
          (sym c.same_bytes.ensures ∙ c.if-same_bytes.false),
      tt,
    )
