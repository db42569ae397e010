-- `walking_steps::any_pinned` meets its contract: the marks passed are those looked at. Assumes nothing.
use mathlib.Core.Path.{◌≡◌}
use Rattle.walking_steps.specs.Stepping.{any_pinned}
use Rattle.walking_steps.proofs.any_pinned.Given as goal

abbrev pub invariant-loop-mark : goal.invariant-loop-mark
invariant-loop-mark l = l.any ≡ any_pinned l.marks l.mark-index
