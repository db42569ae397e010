-- `marked::marks_hold` meets its contract: the terms passed are as marked. Assumes nothing.
use mathlib.Core.Path.{ap}
use mathlib.Core.Bool.{not}
use Rattle.marked.proofs.MarksTested.{one-passed, one_differs, all-passed}
use Rattle.marked.proofs.marks_hold.Goals as goal

pub returns-then-not-mark_holds : goal.returns-then-not-mark_holds
returns-then-not-mark_holds c = one_differs _ _ _ _ c.loop-t-test.true c.mark_holds.ensures (ap not c.if-not-mark_holds.true)

pub loop-t-preserved : goal.loop-t-preserved
loop-t-preserved c = one-passed _ _ _ _ c.loop-t.invariant c.loop-t-test.true c.mark_holds.ensures (ap not c.if-not-mark_holds.false)

pub returns : goal.returns
returns c = all-passed _ _ _ _ c.loop-t.invariant c.loop-t-test.false
