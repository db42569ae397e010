use mathlib.Core.Path.{◌≡◌}
use lib.ListN.{length}
use Rattle.agreeing_file.specs.Marks.{is_fresh, mark_term}
use Rattle.agreeing_file.proofs.Passing.{Passing}
use Rattle.agreeing_file.proofs.clause_agrees.Given as goal

abbrev pub invariant-loop-l : goal.invariant-loop-l
invariant-loop-l l = (length l.marks ≡ length l.initial.marks) × Passing (is_fresh l.terms l.mark) (mark_term l.mark) l.clause l.initial.marks l.l-index l.marks
