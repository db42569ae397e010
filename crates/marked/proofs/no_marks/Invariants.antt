-- `marked::no_marks` meets its contract: what the marks are joined to is 0 exactly if each is. Assumes nothing.
use Rattle.machine.proofs.Rest.{Joined}
use Rattle.marked.proofs.no_marks.Given as goal

abbrev pub invariant-loop-mark : goal.invariant-loop-mark
invariant-loop-mark l = Joined l.marks l.joined l.mark-index
