use mathlib.Core.Path.{◌≡◌}
use lib.ListN.{length}
use Rattle.written.specs.Lists.{below}
use Rattle.written.specs.Agreement.{part_of}
use Rattle.agreeing_file.specs.Matching.{clause_next, pass_clause}
use Rattle.agreeing_file.proofs.Passing.{Passing}
use Rattle.agreeing_file.proofs.clauses_next.Given as goal

abbrev pub invariant-loop-c : goal.invariant-loop-c
invariant-loop-c l =
    (length l.passed ≡ length l.initial.passed)
    × Passing (λ k ms. clause_next (part_of l.occurrence_starts l.occurrences) k (part_of l.starts l.literals k) ms) (λ k ms. pass_clause (part_of l.starts l.literals k) ms)
    (below l.clauses) l.initial.passed l.c l.passed
