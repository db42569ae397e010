-- `flipping::below` meets its contract: the test as a number. Assumes nothing.
use mathlib.Core.Path.{◌≡◌, refl, ◌∙◌}
use mathlib.Core.Bool.{Bool, true, false, cond}
use mir.Val.{bool_byte}
use Rattle.machine.specs.Tallies.{below_of}
use Rattle.flipping.proofs.below.Goals as goal

as-number : (b : Bool) → bool_byte b ≡ cond b 1 0
as-number true = refl
as-number false = refl

pub returns : goal.returns
unfolding below_of
returns c = c.from.ensures ∙ as-number _
