-- `pins::mark_term` meets its contract: the value asked for is 0 or 1. Assumes nothing.
use mathlib.Core.Path.{refl}
use native.Mathlib.Omega.{arith}
use Rattle.pins.proofs.Laws.{asked-low}
use Rattle.pins.proofs.mark_term.Goals as goal

pub overflow_cast-marks : goal.overflow_cast-marks
overflow_cast-marks c = omega (arith, c.asked.ensures, asked-low c.args.value)

pub overflow_add-marks : goal.overflow_add-marks
overflow_add-marks c = omega (arith, c.asked.ensures, asked-low c.args.value)

pub returns : goal.returns
returns c = rw c.asked.ensures refl
