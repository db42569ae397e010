use mathlib.Core.Path.{◌≡◌}
use lib.ListN.{length}
use Rattle.machine.specs.Filling.{filling, put_one, CanPut}
use Rattle.machine.proofs.Runs.{Running}
use Rattle.occurrences.proofs.put_clause.Given as goal

abbrev pub invariant-loop-l : goal.invariant-loop-l
invariant-loop-l l = Running (CanPut 65536 l.occurrence_starts l.c) (put_one l.occurrence_starts l.c) l.clause (filling l.initial.occurrences l.initial.cursors) l.l-index (filling l.occurrences l.cursors) × (length l.occurrences ≡ length l.initial.occurrences) × (length l.cursors ≡ length l.initial.cursors)
