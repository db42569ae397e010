-- `flipping::Tallies::lose` meets its contract: each way out by the case of the clause's count. Assumes nothing.
use mathlib.Core.Path.{refl}
use native.Mathlib.Omega.{arith}
use borrow.Author.Rules.{rules}
use Rattle.machine.specs.Uncovered.{marks}
use Rattle.machine.specs.Tallies.{lowered}
use Rattle.machine.proofs.Steps.{lose_1, lose_light, can-raise-by}
use Rattle.flipping.proofs.Picking.{picked_within}
use Rattle.flipping.proofs.Tallies.lose.Goals as goal

pub returns-then-k-eq1-clause-counts : goal.returns-then-k-eq1-clause-counts
unfolding lowered
returns-then-k-eq1-clause-counts c =
    let entered = c.enter.ensures in
    let at = c.from-at.ensures in
    lose_1 _ _ _ (rw at at c.if-k-eq1.true) (rw at at entered.same_counts.0) entered.same_counts.1 entered.listed

pub bounds-self-pick : goal.bounds-self-pick
bounds-self-pick c = picked_within _ _ _ _ (rw (← c.from-at.ensures) at c.requires.0) c.if-k-eq1.false (rw c.from.ensures at c.pick.ensures)

pub offset_bounds-self-pick : goal.offset_bounds-self-pick
offset_bounds-self-pick c = omega (arith, picked_within _ _ _ _ (rw (← c.from-at.ensures) at c.requires.0) c.if-k-eq1.false (rw c.from.ensures at c.pick.ensures))

pub overflow_add-self : goal.overflow_add-self
overflow_add-self c = omega (arith, (can-raise-by _ _ _ _ (rw (← c.from-at.ensures) at c.requires.0) c.if-k-eq1.false (search rules) (rw c.from.ensures at c.pick.ensures) c.below.ensures).1)

pub bounds-self-pick-2 : goal.bounds-self-pick-2
bounds-self-pick-2 c = picked_within _ _ _ _ (rw (← c.from-at.ensures) at c.requires.0) c.if-k-eq1.false (rw c.from.ensures at c.pick.ensures)

pub returns-clause-counts : goal.returns-clause-counts
unfolding marks lowered
returns-clause-counts c =
    let can = rw (← c.from-at.ensures) at c.requires.0 in
    rw (← c.from-at.ensures, c.from.ensures) (lose_light _ _ _ can.count.some c.if-k-eq1.false refl refl (rw c.from.ensures at c.pick.ensures) c.below.ensures refl)
