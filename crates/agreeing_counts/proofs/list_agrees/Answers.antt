use mathlib.Core.Path.{sym, ◌∙◌}
use Rattle.machine.specs.Tested.{place_tested}
use Rattle.laws.proofs.Tests.{tested-more, test_fails}
use Rattle.agreeing_counts.proofs.list_agrees.Goals as goal

pub loop-c-preserved : goal.loop-c-preserved
loop-c-preserved c =
    let a = c.args in
    tested-more (place_tested a.n.uncovered a.trues.now a.uncovered.now a.places.now) _ c.loop-c.invariant (sym c.place_agrees.ensures ∙ c.if-not-place_agrees.false)

pub returns-then-not-place_agrees : goal.returns-then-not-place_agrees
returns-then-not-place_agrees c = test_fails _ _ _ c.loop-c-test.true (sym c.place_agrees.ensures ∙ c.if-not-place_agrees.true)
