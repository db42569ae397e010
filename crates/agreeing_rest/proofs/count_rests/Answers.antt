-- `agreeing_rest::count_rests` meets its contract: the row of tests stops at the first that fails. Assumes nothing.
use mathlib.Core.Path.{refl, ◌∙◌}
use Rattle.machine.specs.Judging.{count_rests}
use Rattle.machine.proofs.Rows.{went-on, stopped, next}
use Rattle.agreeing_rest.proofs.count_rests.Goals as goal
use Rattle.agreeing_rest.proofs.count_rests.Goals.{then-rest_zero, else-rest_zero, then-rest_zero-2, else-rest_zero-2}

pub returns-then-rest_zero-3 : goal.returns-then-rest_zero-3
unfolding count_rests
returns-then-rest_zero-3 c =
    let e1 = c.rest_zero.ensures in
    let e2 = next e1 (elim c.if-rest_zero.branch [ then-rest_zero w ↦ went-on w.if-rest_zero.true (w.value-is ∙ w.rest_zero-then-rest_zero.ensures) | else-rest_zero w ↦ stopped w.if-rest_zero.false w.value-is ]) in
    let e3 = next e2 (elim c.if-rest_zero-2.branch [ then-rest_zero-2 w ↦ went-on w.if-rest_zero-2.true (w.value-is ∙ w.rest_zero-then-rest_zero-2.ensures) | else-rest_zero-2 w ↦ stopped w.if-rest_zero-2.false w.value-is ]) in
    next e3 (went-on c.if-rest_zero-3.true c.rest_zero-then-rest_zero-3.ensures)

pub returns-else-rest_zero-3 : goal.returns-else-rest_zero-3
unfolding count_rests
returns-else-rest_zero-3 c =
    let e1 = c.rest_zero.ensures in
    let e2 = next e1 (elim c.if-rest_zero.branch [ then-rest_zero w ↦ went-on w.if-rest_zero.true (w.value-is ∙ w.rest_zero-then-rest_zero.ensures) | else-rest_zero w ↦ stopped w.if-rest_zero.false w.value-is ]) in
    let e3 = next e2 (elim c.if-rest_zero-2.branch [ then-rest_zero-2 w ↦ went-on w.if-rest_zero-2.true (w.value-is ∙ w.rest_zero-then-rest_zero-2.ensures) | else-rest_zero-2 w ↦ stopped w.if-rest_zero-2.false w.value-is ]) in
    next e3 (stopped c.if-rest_zero-3.false refl)
