use native.Mathlib.Omega.{arith}
use Rattle.machine.specs.Tallies.{hit_of}
use Rattle.machine.specs.Tested.{count_of}
use Rattle.machine.proofs.Scanned.{count-more, count-done}
use Rattle.machine.proofs.Ones.{hit_low}
use Rattle.agreeing_counts.proofs.zero_count.Goals as goal

pub overflow_add-zeros : goal.overflow_add-zeros
overflow_add-zeros c = omega (arith, hit_low _ _ c.one_for-zeros.ensures)

pub loop-count-preserved : goal.loop-count-preserved
unfolding count_of
loop-count-preserved c =
    (omega (arith, hit_low _ _ c.one_for-zeros.ensures), count-more (λ x. hit_of x 0) _ _ c.loop-count.zeros c.loop-count-test.true c.one_for-zeros.ensures c.loop-count.invariant.1)

pub returns : goal.returns
unfolding count_of
returns c = count-done (λ x. hit_of x 0) _ _ _ c.loop-count-test.false c.loop-count.invariant.1
