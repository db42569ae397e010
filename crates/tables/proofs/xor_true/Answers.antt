use Rattle.machine.proofs.Scanned.{xor_more, xor_done}
use Rattle.tables.proofs.xor_true.Goals as goal

pub loop-l-preserved : goal.loop-l-preserved
loop-l-preserved c = xor_more _ _ _ c.loop-l.terms c.loop-l-test.true c.term_if-terms.ensures c.loop-l.invariant

pub returns : goal.returns
returns c = xor_done _ _ _ _ c.loop-l-test.false c.loop-l.invariant
