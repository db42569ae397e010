-- `flipping::run_through` meets its contract: a loop over a run of steps. Assumes nothing.
use mathlib.Core.Path.{◌∙◌}
use Rattle.machine.proofs.Runs.{next-can, again}
use Rattle.flipping.proofs.run_through.Goals as goal

pub step-requires : goal.step-requires
step-requires g c = (next-can _ _ _ _ _ _ c.loop-c.invariant.0 c.loop-c-test.true, c.requires.1)

pub loop-c-preserved : goal.loop-c-preserved
loop-c-preserved g c =
    let i = c.loop-c.invariant in
    let s = c.step.ensures.same_tables in
    (again _ _ _ _ _ _ _ i.0 c.loop-c-test.true c.step.ensures.counts, (s.0 ∙ i.1.0, s.1 ∙ i.1.1, s.2 ∙ i.1.2, s.3 ∙ i.1.3))
