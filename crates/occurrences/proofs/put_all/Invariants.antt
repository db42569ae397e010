use mathlib.Core.Path.{◌≡◌}
use lib.ListN.{length}
use Rattle.machine.specs.Passes.{up_to}
use Rattle.machine.specs.Filling.{filling, put_clause}
use Rattle.occurrences.proofs.put_all.Given as goal

abbrev pub invariant-loop-c : goal.invariant-loop-c
invariant-loop-c l = (filling l.occurrences l.cursors ≡ up_to (put_clause l.starts l.literals l.occurrence_starts) l.c (filling l.initial.occurrences l.initial.cursors)) × (length l.occurrences ≡ length l.initial.occurrences) × (length l.cursors ≡ length l.initial.cursors)
