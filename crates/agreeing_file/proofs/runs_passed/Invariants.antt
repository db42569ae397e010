use mathlib.Core.Path.{◌≡◌}
use mathlib.Core.Bool.{true}
use Prim.Native.Nat.{◌≤◌}
use Rattle.written.specs.Agreement.{part_of}
use Rattle.agreeing_file.specs.Matching.{runs_passed}
use Rattle.agreeing_file.proofs.runs_passed.Given as goal

abbrev pub invariant-loop-l : goal.invariant-loop-l
invariant-loop-l l = (l.l ≤ l.runs) × (runs_passed l.l (part_of l.occurrence_starts l.occurrences) l.passed ≡ true)
