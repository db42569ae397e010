use native.Mathlib.Omega.{arith}
use Rattle.words.specs.Words.{bit_of, bit_at}
use Rattle.written.specs.Clauses.{term_of}
use Rattle.machine.specs.Literals.{value_in}
use Rattle.tables.proofs.literal_value.Goals as goal

pub overflow_add-result : goal.overflow_add-result
unfolding bit_at bit_of
overflow_add-result c = omega (arith, c.value.ensures)

pub returns : goal.returns
unfolding value_in term_of
returns c = rw (c.value.ensures, c.from.ensures, c.from-2.ensures)
