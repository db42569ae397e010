-- `agreeing_rest::clause_rests` meets its contract: the row of tests stops at the first that fails. Assumes nothing.
use mathlib.Core.Path.{refl, ◌∙◌}
use Rattle.words.specs.Words.{word_count}
use Rattle.machine.specs.Judging.{clause_rests}
use Rattle.machine.proofs.Rows.{went-on, stopped, next}
use Rattle.agreeing_rest.proofs.clause_rests.Goals as goal
use Rattle.agreeing_rest.proofs.clause_rests.Goals.{then-names_rest, else-names_rest, then-values_rest, else-values_rest, then-rest_zero, else-rest_zero, then-rest_zero-2, else-rest_zero-2}

pub returns-then-rest_zero-3 : goal.returns-then-rest_zero-3
unfolding clause_rests word_count
returns-then-rest_zero-3 c =
    let e1 = c.names_rest.ensures in
    let e2 = next e1 (elim c.if-names_rest.branch [ then-names_rest w ↦ went-on w.if-names_rest.true (w.value-is ∙ w.values_rest.ensures) | else-names_rest w ↦ stopped w.if-names_rest.false w.value-is ]) in
    let e3 = next e2 (elim c.if-values_rest.branch [ then-values_rest w ↦ went-on w.if-values_rest.true (w.value-is ∙ w.rest_zero.ensures) | else-values_rest w ↦ stopped w.if-values_rest.false w.value-is ]) in
    let e4 = next e3 (elim c.if-rest_zero.branch [ then-rest_zero w ↦ went-on w.if-rest_zero.true (w.value-is ∙ w.rest_zero-then-rest_zero.ensures) | else-rest_zero w ↦ stopped w.if-rest_zero.false w.value-is ]) in
    let e5 = next e4 (elim c.if-rest_zero-2.branch [ then-rest_zero-2 w ↦ went-on w.if-rest_zero-2.true (w.value-is ∙ w.rest_zero-then-rest_zero-2.ensures) | else-rest_zero-2 w ↦ stopped w.if-rest_zero-2.false w.value-is ]) in
    next e5 (went-on c.if-rest_zero-3.true c.rest_zero-then-rest_zero-3.ensures)

pub returns-else-rest_zero-3 : goal.returns-else-rest_zero-3
unfolding clause_rests word_count
returns-else-rest_zero-3 c =
    let e1 = c.names_rest.ensures in
    let e2 = next e1 (elim c.if-names_rest.branch [ then-names_rest w ↦ went-on w.if-names_rest.true (w.value-is ∙ w.values_rest.ensures) | else-names_rest w ↦ stopped w.if-names_rest.false w.value-is ]) in
    let e3 = next e2 (elim c.if-values_rest.branch [ then-values_rest w ↦ went-on w.if-values_rest.true (w.value-is ∙ w.rest_zero.ensures) | else-values_rest w ↦ stopped w.if-values_rest.false w.value-is ]) in
    let e4 = next e3 (elim c.if-rest_zero.branch [ then-rest_zero w ↦ went-on w.if-rest_zero.true (w.value-is ∙ w.rest_zero-then-rest_zero.ensures) | else-rest_zero w ↦ stopped w.if-rest_zero.false w.value-is ]) in
    let e5 = next e4 (elim c.if-rest_zero-2.branch [ then-rest_zero-2 w ↦ went-on w.if-rest_zero-2.true (w.value-is ∙ w.rest_zero-then-rest_zero-2.ensures) | else-rest_zero-2 w ↦ stopped w.if-rest_zero-2.false w.value-is ]) in
    next e5 (stopped c.if-rest_zero-3.false refl)
