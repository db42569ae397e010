use mathlib.Core.Path.{◌≡◌}
use lib.ListN.{length}
use Rattle.machine.specs.Filling.{tally, CanTally}
use Rattle.machine.proofs.Runs.{Running}
use Rattle.occurrences.proofs.count.Given as goal

abbrev pub invariant-loop-l : goal.invariant-loop-l
invariant-loop-l l = Running (CanTally 65536) tally l.literals l.initial.counts l.l-index l.counts × (length l.counts ≡ length l.initial.counts)
