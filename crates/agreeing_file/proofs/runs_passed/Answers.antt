use mathlib.Core.Path.{refl}
use native.Mathlib.Omega.{arith}
use Rattle.agreeing_file.specs.Matching.{runs_passed}
use Rattle.agreeing_file.proofs.Matching.{passed-fails, passed-more}
use Rattle.agreeing_file.proofs.runs_passed.Goals as goal

pub loop-l-init : goal.loop-l-init
unfolding runs_passed
loop-l-init c = (omega arith, refl)

pub returns-then-k-run : goal.returns-then-k-run
returns-then-k-run c = passed-fails _ _ _ _ _ c.loop-l-test.true c.part-run.ensures (rw c.from-k.ensures at c.if-k-run.true)

pub loop-l-preserved : goal.loop-l-preserved
loop-l-preserved c = (omega arith, passed-more _ _ _ _ c.loop-l.invariant.1 c.part-run.ensures (rw c.from-k.ensures at c.if-k-run.false))
