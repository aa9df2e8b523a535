-- `luck_linter::rules::format_string::escapes_in` meets its contract. Assumes nothing.
use Rattle.std.proofs.Common.{◌+◌, sym, refl, ◌∙◌, arith}
use Rattle.luck_linter.specs.Inner.{is_some}
use Rattle.luck_linter.proofs.StringLiterals as laws
use Rattle.luck_linter.proofs.rules.format_string.escapes_in.Goals as goal

pub loop-at-init : goal.loop-at-init
loop-at-init c =
    let e = c.blocks_end-at.ensures in
    let body = c.args.body.now in
    let r = c.blocks_end-at.result in
    record {
      inside = e.1;
      numeric = laws.passes_plain body 0 r e.0 e.1 e.2;
      met = laws.none_between body 0 r e.0 e.1 e.2;
      plain = refl;
    }

pub loop-at-preserved-then-body-at-ne92 : goal.loop-at-preserved-then-body-at-ne92
loop-at-preserved-then-body-at-ne92 c =
    let l = c.loop-at in
    let body = c.args.body.now in
    let in_body = c.loop-at-test.true in
    let other = c.if-body-at-ne92.true in
    record {
      inside = omega arith;
      numeric = laws.passes_byte body l.at in_body other ∙ l.invariant.numeric;
      met = laws.passed_over body (is_some l.found) l.at (l.at + 1) (laws.not_here body l.at in_body other) l.invariant.met;
      plain = l.invariant.plain;
    }

pub returns-then-body-at-eq1 : goal.returns-then-body-at-eq1
returns-then-body-at-eq1 c =
    let l = c.loop-at in
    let body = c.args.body.now in
    let in_body = c.loop-at-test.true in (
      laws.last_byte body l.at in_body (omega arith) ∙ l.invariant.numeric,
      laws.met_here body (is_some l.found) l.at in_body c.if-body-at-ne92.false l.invariant.met,
    )

pub returns-then-is_numeric_escape : goal.returns-then-is_numeric_escape
returns-then-is_numeric_escape c =
    let l = c.loop-at in
    let body = c.args.body.now in
    let in_body = c.loop-at-test.true in
    let here = c.if-body-at-ne92.false in (
      laws.numeric body l.at in_body here (omega arith) (sym c.is_numeric_escape.ensures ∙ c.if-is_numeric_escape.true)
          ∙ l.invariant.numeric,
      laws.met_here body (is_some l.found) l.at in_body here l.invariant.met,
    )

pub loop-at-smaller : goal.loop-at-smaller
loop-at-smaller c = let e = c.blocks_end-at-in-loop-at.ensures in omega (arith, e.0, c.loop-at-test.true)

pub loop-at-preserved : goal.loop-at-preserved
loop-at-preserved c =
    let e = c.blocks_end-at-in-loop-at.ensures in
    let l = c.loop-at in
    let body = c.args.body.now in
    let in_body = c.loop-at-test.true in
    let here = c.if-body-at-ne92.false in
    record {
      inside = e.1;
      numeric =
          laws.passes_plain body (l.at + 2) c.blocks_end-at-in-loop-at.result e.0 e.1 e.2
          ∙ laws.passes_escape body l.at in_body here (omega arith)
          (sym c.is_numeric_escape.ensures ∙ c.if-is_numeric_escape.false)
          ∙ l.invariant.numeric;
      met = laws.met_here body (is_some l.found) l.at in_body here l.invariant.met;
      plain = refl;
    }

pub returns : goal.returns
returns c =
    let l = c.loop-at in
    let body = c.args.body.now in
    let past = c.loop-at-test.false in (
      l.invariant.plain ∙ laws.at_end body l.at past ∙ l.invariant.numeric,
      laws.all_met body (is_some l.found) l.at past l.invariant.met,
    )
