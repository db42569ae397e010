-- `walking_steps::onwards` meets its contract: what is left of the walk makes the whole. Assumes nothing.
use mathlib.Core.Path.{◌≡◌}
use Prim.Native.Nat.{◌+◌, ◌-◌, ◌^◌}
use lib.ListN.{length}
use Rattle.machine.specs.Tallies.{tallies, SameSizes}
use Rattle.machine.specs.Moving.{fixed}
use Rattle.walking_steps.specs.Stepping.{stand}
use Rattle.walking_steps.proofs.Loop.{Going}
use Rattle.walking_steps.proofs.onwards.Given as goal

abbrev pub invariant-loop-at : goal.invariant-loop-at
invariant-loop-at l =
    Going 65536 (2 ^ 32) l.pinned l.order l.marks (fixed l.starts l.literals l.occurrence_starts l.occurrences)
    (stand l.initial.values (tallies l.initial.trues l.initial.breaks l.initial.list l.initial.places l.initial.at.number) l.initial.at.generator.state l.initial.at.flips)
    (stand l.values (tallies l.trues l.breaks l.list l.places l.at.number) l.at.generator.state l.at.flips)
    × SameSizes (tallies l.trues l.breaks l.list l.places l.at.number) (tallies l.initial.trues l.initial.breaks l.initial.list l.initial.places l.initial.at.number)
    × (length l.values ≡ length l.initial.values)
    × (l.last ≡ l.initial.at.flips + l.order.flips)

abbrev pub decreases-loop-at : goal.decreases-loop-at
decreases-loop-at l = l.initial.at.flips + l.order.flips - l.at.flips
