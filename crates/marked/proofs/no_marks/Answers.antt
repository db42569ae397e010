-- `marked::no_marks` meets its contract: what the marks are joined to is 0 exactly if each is. Assumes nothing.
use Rattle.machine.proofs.Rest.{one-joined, all-joined}
use Rattle.marked.proofs.no_marks.Goals as goal

pub loop-mark-preserved : goal.loop-mark-preserved
loop-mark-preserved c = one-joined _ _ _ c.loop-mark.invariant c.loop-mark-test.true

pub returns : goal.returns
returns c = all-joined _ _ _ c.loop-mark.invariant c.loop-mark-test.false
