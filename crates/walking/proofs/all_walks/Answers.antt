-- `walking::all_walks` meets its contract: the walks that are left make the whole. Assumes nothing.
use mathlib.Core.Path.{◌∙◌}
use Rattle.machine.specs.Tallies.{SameSizes}
use Rattle.machine.proofs.Sizes.{sizes_trans}
use Rattle.walking.proofs.Loop.{next-can, again, over}
use Rattle.walking.proofs.all_walks.Goals as goal

pub one_walk-at-requires : goal.one_walk-at-requires
one_walk-at-requires c = next-can _ _ _ _ _ _ _ _ _ _ _ c.goes_on.ensures c.loop-found-test.true c.loop-found.invariant.0

pub loop-found-preserved : goal.loop-found-preserved
loop-found-preserved c =
    let i = c.loop-found.invariant in
    let k = c.one_walk-at.auto in
    let z : SameSizes _ _ = record { trues-size = k.trues; breaks-size = k.breaks; list-size = k.list; places-size = k.places } in (
      again _ _ _ _ _ _ _ _ _ _ c.one_walk-at.ensures _ c.goes_on.ensures c.loop-found-test.true i.0,
      sizes_trans z i.1,
      k.values ∙ i.2,
    )

pub returns : goal.returns
returns c = over _ _ _ _ _ _ _ _ _ _ _ c.goes_on.ensures c.loop-found-test.false c.loop-found.invariant.0
