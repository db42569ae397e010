use mathlib.Core.Path.{◌≡◌}
use Prim.Native.Nat.{◌≤◌}
use lib.ListN.{length}
use Rattle.agreeing_file.proofs.Marks.{Marking}
use Rattle.agreeing_file.proofs.clauses_agree.Given as goal

abbrev pub invariant-loop-c : goal.invariant-loop-c
invariant-loop-c l = (l.c ≤ l.clauses) × (length l.marks ≡ length l.initial.marks) × Marking l.terms l.starts l.literals l.c l.marks
