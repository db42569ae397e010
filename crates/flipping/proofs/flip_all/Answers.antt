-- `flipping::flip_all` meets its contract: a loop over a run of flips. Assumes nothing.
use mathlib.Core.Path.{◌∙◌}
use Rattle.machine.specs.Tallies.{SameSizes}
use Rattle.machine.proofs.Runs.{next-can, again}
use Rattle.machine.proofs.Sizes.{sizes_trans}
use Rattle.flipping.proofs.flip_all.Goals as goal

pub flip_term-n-requires : goal.flip_term-n-requires
flip_term-n-requires c = rw c.from.ensures (next-can _ _ _ _ _ _ c.loop-v.invariant.0 c.loop-v-test.true)

pub loop-v-preserved : goal.loop-v-preserved
loop-v-preserved c =
    let kept = c.flip_term-n.auto in
    let i = c.loop-v.invariant in
    let s : SameSizes _ _ = record { trues-size = kept.trues; breaks-size = kept.breaks; list-size = kept.list; places-size = kept.places } in
    (again _ _ _ _ _ _ _ i.0 c.loop-v-test.true (rw c.from.ensures at c.flip_term-n.ensures), sizes_trans s i.1, kept.values ∙ i.2)
