use mathlib.Core.Path.{refl}
use native.Mathlib.Nat.{le_trans}
use native.Mathlib.Omega.{arith}
use lib.ListN.{length-set}
use Rattle.machine.proofs.Rewritten.{rewritten-none}
use Rattle.occurrences.proofs.Summing.{sum_more, sum_fits, start-more, start-last}
use Rattle.occurrences.proofs.sums.Goals as goal

pub loop-l-init : goal.loop-l-init
loop-l-init c = (refl, rewritten-none _ _, refl)

pub overflow_add-at : goal.overflow_add-at
overflow_add-at c = omega (arith, sum_fits _ _ c.loop-l.invariant.0 _ _ _ c.requires c.loop-l-test.true)

pub loop-l-preserved : goal.loop-l-preserved
loop-l-preserved c =
    let inv = c.loop-l.invariant in
    (search (sum_more, le_trans), start-more _ _ inv.0 _ _ inv.1, simp length-set inv.2)

pub returns : goal.returns
returns c = search start-last
