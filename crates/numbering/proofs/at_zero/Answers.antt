-- `numbering::at_zero` meets its contract: each way out by the tests that lead there. Assumes nothing.
use Rattle.numbering.proofs.Passes.{past-count, of-dropped, of-line}
use Rattle.numbering.proofs.at_zero.Goals as goal

pub returns-then-h-g : goal.returns-then-h-g
returns-then-h-g c = past-count _ _ _ _ _ c.if-h-g.true c.fault_at.ensures

pub returns-then-g : goal.returns-then-g
returns-then-g c = of-dropped _ _ _ _ _ c.if-h-g.false c.if-g.true

pub returns : goal.returns
returns c = of-line _ _ _ _ _ c.if-h-g.false c.if-g.false c.at_line_end.ensures c.turned.ensures
