use mathlib.Core.Path.{sym, ◌∙◌}
use borrow.Author.Tests.{eq-eqb, ne_eqb}
use Rattle.machine.specs.Tested.{break_tested}
use Rattle.laws.proofs.Tests.{tested-more, test_fails}
use Rattle.agreeing_counts.proofs.breaks_agree.Goals as goal

pub returns-then-from-k : goal.returns-then-from-k
unfolding break_tested
returns-then-from-k c = test_fails _ _ _ c.loop-t-test.true (ne_eqb _ _ (λ q. c.if-from-k.true (c.from.ensures ∙ q ∙ sym c.break_count-k.ensures)))

pub loop-t-preserved : goal.loop-t-preserved
unfolding break_tested
loop-t-preserved c =
    let a = c.args in
    tested-more (break_tested a.values.now a.«occurrence_starts».now a.occurrences.now a.trues.now a.breaks.now) _ c.loop-t.invariant (eq-eqb _ _ (sym c.from.ensures ∙ c.if-from-k.false ∙ c.break_count-k.ensures))
