use mathlib.Core.Path.{◌∙◌}
use borrow.Author.Tests.{ne_eqb}
use Rattle.machine.specs.Literals.{term_if}
use Rattle.written.specs.Clauses.{term_of}
use Rattle.tables.proofs.term_if.Goals as goal

pub returns-then-literal_value-eq1 : goal.returns-then-literal_value-eq1
unfolding term_if term_of
returns-then-literal_value-eq1 c = rw (← c.literal_value.ensures, c.if-literal_value-eq1.true)

pub returns-else-literal_value-eq1 : goal.returns-else-literal_value-eq1
unfolding term_if term_of
returns-else-literal_value-eq1 c = rw (ne_eqb _ 1 (λ q. c.if-literal_value-eq1.false (c.literal_value.ensures ∙ q)))
