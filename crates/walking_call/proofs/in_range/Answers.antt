-- `walking_call::in_range` meets its contract: each way out has the tests that lead there. Assumes nothing.
use native.Mathlib.Omega.{arith}
use Rattle.std.proofs.lemmas.Grind.{common_steps}
use Rattle.written.specs.Orders.{in_range}
use Rattle.walking_call.proofs.in_range.Goals as goal

pub returns-then-order-le1000 : goal.returns-then-order-le1000
unfolding in_range
returns-then-order-le1000 c = grind (arith, common_steps)

pub returns-else-order-le1000 : goal.returns-else-order-le1000
unfolding in_range
returns-else-order-le1000 c = grind (arith, common_steps)
