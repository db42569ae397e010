-- `marked::agrees` meets its contract: the row of tests stops at the first that fails. Assumes nothing.
use mathlib.Core.Path.{sym, ◌∙◌}
use borrow.Author.Tests.{lt-leb}
use Rattle.written.specs.Limits.{narrow}
use Rattle.written.specs.Agreement.{state_in}
use Rattle.laws.proofs.Tests.{not-both}
use Rattle.marked.proofs.MarksTested.{short-marks, few-terms, marks_decide, tables_decide}
use Rattle.marked.proofs.agrees.Goals as goal
use Rattle.marked.proofs.agrees.Goals.{then-marks-ge2048, else-marks-ge2048}

pub marks_agree-requires : goal.marks_agree-requires
marks_agree-requires c =
    elim c.if-marks-ge2048.branch [
      | then-marks-ge2048 w ↦ (few-terms narrow _ _ w.agrees.ensures (sym w.value-is ∙ c.if-agrees.true), w.if-marks-ge2048.true)
      | else-marks-ge2048 w ↦ not-both c.if-agrees.true (w.value-is ∙ lt-leb _ _ w.if-marks-ge2048.false)
    ]

pub returns-then-agrees : goal.returns-then-agrees
unfolding state_in
returns-then-agrees c =
    elim c.if-marks-ge2048.branch [
      | then-marks-ge2048 w ↦ marks_decide narrow _ _ _ w.agrees.ensures (sym w.value-is ∙ c.if-agrees.true) w.if-marks-ge2048.true c.marks_agree.ensures
      | else-marks-ge2048 w ↦ not-both c.if-agrees.true (w.value-is ∙ lt-leb _ _ w.if-marks-ge2048.false)
    ]

pub returns-else-agrees : goal.returns-else-agrees
returns-else-agrees c =
    c.if-agrees.false
    ∙ elim c.if-marks-ge2048.branch [
      | then-marks-ge2048 w ↦ tables_decide narrow _ _ _ w.agrees.ensures (sym w.value-is ∙ c.if-agrees.false) w.if-marks-ge2048.true
      | else-marks-ge2048 w ↦ short-marks narrow _ _ _ w.if-marks-ge2048.false
    ]
