use mathlib.Core.Path.{refl, ◌∙◌}
use Rattle.machine.proofs.Rewritten.{rewritten-none, rewritten-more}
use Rattle.recounts.proofs.open_all.Goals as goal

pub loop-c-init : goal.loop-c-init
loop-c-init c = (rewritten-none _ _, refl)

pub loop-c-preserved : goal.loop-c-preserved
loop-c-preserved c =
    let i = c.loop-c.invariant in
    let o = c.open_one in
    (rewritten-more _ _ _ _ _ i.0 o.ensures, o.auto.places ∙ i.1)
