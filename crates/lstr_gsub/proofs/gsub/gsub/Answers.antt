-- `lstr_gsub::gsub::gsub` meets its contract. Assumes nothing.
use mathlib.Core.Path.{sym, ap, ◌∙◌}
use lib.ListN.{length}
use Rattle.lstr_gsub.specs.Gsub.{output_after, report}
use Rattle.lstr_gsub.proofs.Rounds as rounds
use Rattle.lstr_gsub.proofs.gsub.gsub.Goals as goal
use Rattle.lstr_gsub.proofs.gsub.gsub.Goals.{else-pattern-gt0-via-then-pattern-gt0+else-pattern-eq94, else-pattern-gt0-via-else-pattern-gt0}

pub returns-then-not-is_version : goal.returns-then-not-is_version
returns-then-not-is_version c =
    let a = c.args in
    let e = rounds.no_version a.version a.pattern.now a.replacement.now a.subject.now a.budget (length a.output.now) (sym c.is_version.ensures ∙ c.if-not-is_version.true) in
    record { answer = ap report e; output = ap (output_after a.output.now) e }

pub run_anchored-requires : goal.run_anchored-requires
run_anchored-requires c = c.if-pattern-gt0.true

pub returns-then-pattern-eq94 : goal.returns-then-pattern-eq94
returns-then-pattern-eq94 c =
    let a = c.args in
    let q = c.run_anchored.ensures in
    let e = rounds.gsub_anchored a.version a.pattern.now a.replacement.now a.subject.now a.budget (length a.output.now) (sym c.is_version.ensures ∙ c.if-not-is_version.false) _ c.rules_of-is_strict.ensures _ c.classes-classes.ensures c.if-pattern-eq94.true in
    record { answer = q.is ∙ ap report e; output = q.output ∙ ap (output_after a.output.now) e }

pub returns : goal.returns
returns c =
    let a = c.args in
    let q = c.run_rounds.ensures in
    let e = rounds.gsub_free a.version a.pattern.now a.replacement.now a.subject.now a.budget (length a.output.now) (sym c.is_version.ensures ∙ c.if-not-is_version.false) _ c.rules_of-is_strict.ensures _ c.classes-classes.ensures
    (elim c.else-pattern-gt0.branch [ else-pattern-gt0-via-then-pattern-gt0+else-pattern-eq94 w ↦ w.if-pattern-eq94.false | else-pattern-gt0-via-else-pattern-gt0 w ↦ rounds.first_none a.pattern.now w.if-pattern-gt0.false ]) in
    record { answer = q.is ∙ ap report e; output = q.output ∙ ap (output_after a.output.now) e }
