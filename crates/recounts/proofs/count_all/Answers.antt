use Rattle.machine.specs.Passes.{counted}
use Rattle.machine.proofs.Rewritten.{up_none, up_more}
use Rattle.machine.proofs.Sizes.{sizes-refl, sizes_trans}
use Rattle.recounts.proofs.count_all.Goals as goal

pub loop-c-init : goal.loop-c-init
unfolding counted
loop-c-init c = (up_none _ _, sizes-refl _)

pub loop-c-preserved : goal.loop-c-preserved
unfolding counted
loop-c-preserved c =
    let o = c.count_one-number in
    let i = c.loop-c.invariant in
    let k = o.auto in (
      up_more _ _ _ _ _ i.0 o.ensures,
      sizes_trans (record { trues-size = k.trues; breaks-size = k.breaks; list-size = k.list; places-size = k.places }) i.1,
    )
