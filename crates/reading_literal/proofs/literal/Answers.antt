-- `reading_literal::literal` meets its contract: each way out has the test that leads there. Assumes nothing.
use native.Mathlib.Omega.{arith}
use Rattle.written.specs.Clauses.{literal_of}
use Rattle.reading_literal.proofs.literal.Goals as goal

pub returns-then-negated : goal.returns-then-negated
unfolding literal_of
returns-then-negated c = rw c.if-negated.true

pub returns-else-negated : goal.returns-else-negated
unfolding literal_of
returns-else-negated c = rw c.if-negated.false (omega arith)
