-- `walking_steps::any_pinned` meets its contract: the marks passed are those looked at. Assumes nothing.
use mathlib.Core.Path.{refl, ◌∙◌}
use Prim.Native.Nat.{ℕ, ◌<◌}
use native.Mathlib.Omega.{arith}
use Rattle.std.proofs.Common.{length-take}
use Rattle.walking_steps.specs.Stepping.{any_pinned}
use Rattle.walking_steps.proofs.Plain.{see-more}
use Rattle.walking_steps.proofs.any_pinned.Goals as goal

pub loop-mark-init : goal.loop-mark-init
unfolding any_pinned
loop-mark-init c = refl

pub loop-mark-preserved : goal.loop-mark-preserved
loop-mark-preserved c =
    let a = c.args in
    let within : c.loop-mark.mark-index < a.n = omega (arith, length-take {A = ℕ}) in
    see-more a.marks.now a.n c.loop-mark.mark-index c.loop-mark.any c.loop-mark.invariant within
