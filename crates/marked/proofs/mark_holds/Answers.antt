-- `marked::mark_holds` meets its contract: each mark has its case. Assumes nothing.
use native.Mathlib.Omega.{arith}
use Rattle.marked.proofs.MarksTested.{free-goes, large_fails, pinned-at-0, pinned-at_1}
use Rattle.marked.proofs.mark_holds.Goals as goal

pub returns-in-0 : goal.returns-in-0
returns-in-0 c = free-goes _ _ c.in-0.is

pub returns-in-1 : goal.returns-in-1
returns-in-1 c = pinned-at-0 _ _ _ (omega arith) c.in-1.is c.value.ensures

pub returns-in-2 : goal.returns-in-2
returns-in-2 c = pinned-at_1 _ _ _ (λ q. omega arith) (omega arith) (λ q. omega arith) c.value-in-2.ensures

pub returns-in_default : goal.returns-in_default
returns-in_default c = large_fails _ _ (omega arith)
