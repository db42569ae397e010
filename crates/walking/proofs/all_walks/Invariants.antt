-- `walking::all_walks` meets its contract: the walks that are left make the whole. Assumes nothing.
use mathlib.Core.Path.{◌≡◌}
use Prim.Native.Nat.{◌-◌, ◌^◌}
use lib.ListN.{length}
use Rattle.machine.specs.Tallies.{tallies, SameSizes}
use Rattle.machine.specs.Moving.{fixed}
use Rattle.walking_steps.specs.Stepping.{stand}
use Rattle.walking.proofs.Loop.{Standing}
use Rattle.walking.proofs.all_walks.Given as goal

abbrev pub invariant-loop-found : goal.invariant-loop-found
invariant-loop-found l =
    Standing 65536 (2 ^ 32) l.n.terms l.n.clauses l.order l.marks (fixed l.starts l.literals l.occurrence_starts l.occurrences)
    (stand l.initial.values (tallies l.initial.trues l.initial.breaks l.initial.list l.initial.places l.initial.at.number) l.initial.at.generator.state l.initial.at.flips) l.found l.begun
    (stand l.values (tallies l.trues l.breaks l.list l.places l.at.number) l.at.generator.state l.at.flips)
    × SameSizes (tallies l.trues l.breaks l.list l.places l.at.number) (tallies l.initial.trues l.initial.breaks l.initial.list l.initial.places l.initial.at.number)
    × (length l.values ≡ length l.initial.values)

abbrev pub decreases-loop-found : goal.decreases-loop-found
decreases-loop-found l = l.order.walks - l.begun
