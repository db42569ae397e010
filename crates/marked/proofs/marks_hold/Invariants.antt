-- `marked::marks_hold` meets its contract: the terms passed are as marked. Assumes nothing.
use Rattle.marked.proofs.MarksTested.{Passed}
use Rattle.marked.proofs.marks_hold.Given as goal

abbrev pub invariant-loop-t : goal.invariant-loop-t
invariant-loop-t l = Passed l.values l.marks l.terms l.t
