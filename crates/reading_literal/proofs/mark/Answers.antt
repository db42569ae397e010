-- `reading_literal::mark` meets its contract: the literal, and its place as a stamp. Assumes nothing.
use native.Mathlib.Omega.{arith}
use Rattle.laws.proofs.Literals.{literal-below}
use Rattle.reading_literal.proofs.mark.Goals as goal

pub overflow_cast-literals : goal.overflow_cast-literals
overflow_cast-literals c = omega (arith, c.literal-l.ensures, literal-below c.args.term 32768 c.args.negated c.requires.3)
