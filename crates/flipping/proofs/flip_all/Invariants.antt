-- `flipping::flip_all` meets its contract: a loop over a run of flips. Assumes nothing.
use mathlib.Core.Path.{◌≡◌}
use lib.ListN.{length}
use Rattle.machine.specs.Tallies.{tallies, SameSizes}
use Rattle.machine.specs.Moving.{moving, occurring, flip_term, CanFlip}
use Rattle.machine.proofs.Runs.{Running}
use Rattle.flipping.proofs.flip_all.Given as goal

abbrev pub invariant-loop-v : goal.invariant-loop-v
invariant-loop-v l =
    Running (CanFlip 65536 (occurring l.occurrence_starts l.occurrences)) (flip_term (occurring l.occurrence_starts l.occurrences)) l.terms
    (moving l.initial.values (tallies l.initial.trues l.initial.breaks l.initial.list l.initial.places l.number)) l.v-index (moving l.values (tallies l.trues l.breaks l.list l.places l.n))
    × SameSizes (tallies l.trues l.breaks l.list l.places l.n) (tallies l.initial.trues l.initial.breaks l.initial.list l.initial.places l.number)
    × (length l.values ≡ length l.initial.values)
