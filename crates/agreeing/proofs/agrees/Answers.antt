-- `agreeing::agrees` meets its contract: the row of tests stops at the first that fails. Assumes nothing.
use mathlib.Core.Path.{refl, sym, ◌∙◌}
use Rattle.written.specs.Agreement.{agree}
use Rattle.laws.proofs.Tests.{not-both}
use Rattle.agreeing.proofs.agrees.Goals as goal
use Rattle.agreeing.proofs.agrees.Goals.{then-are_full, else-are_full}

pub points_agree-requires : goal.points_agree-requires
points_agree-requires c =
    elim c.if-are_full.branch [
      | then-are_full w ↦ (sym c.are_full.ensures ∙ w.if-are_full.true, sym w.counts_fit.ensures ∙ sym w.value-is ∙ c.if-counts_fit.true)
      | else-are_full w ↦ not-both c.if-counts_fit.true (w.value-is ∙ w.if-are_full.false)
    ]

pub returns-then-counts_fit : goal.returns-then-counts_fit
returns-then-counts_fit c =
    elim c.if-are_full.branch [
      | then-are_full w ↦ rw (← c.are_full.ensures, w.if-are_full.true) c.points_agree.ensures
      | else-are_full w ↦ cc
    ]

pub returns-else-counts_fit : goal.returns-else-counts_fit
unfolding agree
returns-else-counts_fit c =
    elim c.if-are_full.branch [
      | then-are_full w ↦ rw (← c.are_full.ensures, w.if-are_full.true, ← w.counts_fit.ensures, ← w.value-is, c.if-counts_fit.false) refl
      | else-are_full w ↦ rw (← c.are_full.ensures, w.if-are_full.false) c.if-counts_fit.false
    ]
