-- `agreeing_counts::counts_agree` meets its contract: the row of tests stops at the first that fails. Assumes nothing.
use mathlib.Core.Path.{sym, ◌∙◌}
use Rattle.machine.proofs.Ones.{can-breaks}
use Rattle.agreeing_counts.proofs.CountsTested.{trues_wrong, breaks_wrong, number_wrong, list_decides}
use Rattle.agreeing_counts.proofs.counts_agree.Goals as goal
use Rattle.agreeing_counts.proofs.counts_agree.Goals.{then-trues_agree, else-trues_agree, then-breaks_agree, else-breaks_agree}

pub breaks_agree-requires : goal.breaks_agree-requires
breaks_agree-requires c = can-breaks _ _ _ _ _ _ _ _ _ _ c.requires

pub returns-then-number_agrees : goal.returns-then-number_agrees
returns-then-number_agrees c =
    elim c.if-breaks_agree.branch [
      | then-breaks_agree w ↦ elim c.if-trues_agree.branch [
        | then-trues_agree u ↦
            c.list_agrees.ensures
            ∙ list_decides _ _ _ _ _ _ _ _ _ _ c.requires (sym c.trues_agree.ensures ∙ u.if-trues_agree.true)
            (sym u.breaks_agree.ensures ∙ sym u.value-is ∙ w.if-breaks_agree.true) (sym w.number_agrees.ensures ∙ sym w.value-is ∙ c.if-number_agrees.true)
        | else-trues_agree u ↦ cc
      ]
      | else-breaks_agree w ↦ cc
    ]

pub returns-else-number_agrees : goal.returns-else-number_agrees
returns-else-number_agrees c =
    c.if-number_agrees.false
    ∙ elim c.if-breaks_agree.branch [
      | then-breaks_agree w ↦ elim c.if-trues_agree.branch [
        | then-trues_agree u ↦
            number_wrong _ _ _ _ _ _ _ _ _ _ c.requires (sym c.trues_agree.ensures ∙ u.if-trues_agree.true)
            (sym u.breaks_agree.ensures ∙ sym u.value-is ∙ w.if-breaks_agree.true) (sym w.number_agrees.ensures ∙ sym w.value-is ∙ c.if-number_agrees.false)
        | else-trues_agree u ↦ cc
      ]
      | else-breaks_agree w ↦ elim c.if-trues_agree.branch [
        | then-trues_agree u ↦
            breaks_wrong _ _ _ _ _ _ _ _ _ _ c.requires (sym c.trues_agree.ensures ∙ u.if-trues_agree.true)
            (sym u.breaks_agree.ensures ∙ sym u.value-is ∙ w.if-breaks_agree.false)
        | else-trues_agree u ↦ trues_wrong _ _ _ _ _ _ _ _ _ _ c.requires (sym c.trues_agree.ensures ∙ u.if-trues_agree.false)
      ]
    ]
