-- `flipping::Tallies::gain` meets its contract: each way out by the case of the clause's count. Assumes nothing.
use mathlib.Core.Path.{refl}
use native.Mathlib.Omega.{arith}
use Rattle.machine.specs.Uncovered.{marks}
use Rattle.machine.specs.Tallies.{raised}
use Rattle.machine.proofs.Steps.{gain_0, gain_light, can-lower-by}
use Rattle.flipping.proofs.Tallies.gain.Goals as goal

pub returns-then-k-eq0-clause-counts : goal.returns-then-k-eq0-clause-counts
unfolding raised
returns-then-k-eq0-clause-counts c =
    let left = c.leave.ensures in
    let at = c.from-at.ensures in
    gain_0 _ _ _ (rw at at c.if-k-eq0.true) (rw at at left.same_counts.0) left.same_counts.1 left.listed

pub bounds-self-pick : goal.bounds-self-pick
bounds-self-pick c = (can-lower-by _ _ _ _ (rw (← c.from-at.ensures) at c.requires.0) c.if-k-eq0.false (rw c.from.ensures at c.pick.ensures) c.below.ensures).0

pub offset_bounds-self-pick : goal.offset_bounds-self-pick
offset_bounds-self-pick c = omega (arith, (can-lower-by _ _ _ _ (rw (← c.from-at.ensures) at c.requires.0) c.if-k-eq0.false (rw c.from.ensures at c.pick.ensures) c.below.ensures).0)

pub overflow_sub-self : goal.overflow_sub-self
overflow_sub-self c = (can-lower-by _ _ _ _ (rw (← c.from-at.ensures) at c.requires.0) c.if-k-eq0.false (rw c.from.ensures at c.pick.ensures) c.below.ensures).1

pub bounds-self-pick-2 : goal.bounds-self-pick-2
bounds-self-pick-2 c = (can-lower-by _ _ _ _ (rw (← c.from-at.ensures) at c.requires.0) c.if-k-eq0.false (rw c.from.ensures at c.pick.ensures) c.below.ensures).0

pub returns-clause-counts : goal.returns-clause-counts
unfolding marks raised
returns-clause-counts c = rw (← c.from-at.ensures) (gain_light _ _ _ c.if-k-eq0.false refl refl (rw c.from.ensures at c.pick.ensures) c.below.ensures refl)
