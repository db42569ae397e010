use native.Mathlib.Omega.{arith}
use lib.ListN.{get_or}
use Rattle.machine.specs.Tallies.{hit_of}
use Rattle.machine.specs.Tested.{ones_in}
use Rattle.machine.proofs.Scanned.{count-more, count-done}
use Rattle.machine.proofs.Ones.{hit_low}
use Rattle.agreeing_counts.proofs.ones_in.Goals as goal

pub overflow_add-ones : goal.overflow_add-ones
overflow_add-ones c = omega (arith, hit_low _ _ c.one_for-ones.ensures)

pub loop-c-preserved : goal.loop-c-preserved
unfolding ones_in
loop-c-preserved c =
    let l = c.loop-c in
    let a = c.args in (
      omega (arith, hit_low _ _ c.one_for-ones.ensures),
      count-more (λ k. hit_of (get_or a.trues.now k 0) 1) _ _ l.ones c.loop-c-test.true (rw c.from.ensures at c.one_for-ones.ensures) l.invariant.1,
    )

pub returns : goal.returns
unfolding ones_in
returns c = count-done (λ k. hit_of (get_or c.args.trues.now k 0) 1) _ _ _ c.loop-c-test.false c.loop-c.invariant.1
