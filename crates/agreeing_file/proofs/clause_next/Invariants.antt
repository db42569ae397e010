use mathlib.Core.Path.{◌≡◌}
use lib.ListN.{length}
use Rattle.written.specs.Agreement.{part_of}
use Rattle.agreeing_file.specs.Matching.{is_next, pass_one}
use Rattle.agreeing_file.proofs.Passing.{Passing}
use Rattle.agreeing_file.proofs.clause_next.Given as goal

abbrev pub invariant-loop-l : goal.invariant-loop-l
invariant-loop-l l = (length l.passed ≡ length l.initial.passed) × Passing (is_next (part_of l.occurrence_starts l.occurrences) l.c) pass_one l.clause l.initial.passed l.l-index l.passed
