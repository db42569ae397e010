-- `walking_choice::choice` meets its contract: it is the choice of the mode that the order asks for. Assumes nothing.
use borrow.Author.Tests.{eq-eqb, ne_eqb}
use Rattle.written.specs.Drawing.{choice}
use Rattle.walking_choice.proofs.choice.Goals as goal

pub returns-then-order-eq1 : goal.returns-then-order-eq1
unfolding choice
returns-then-order-eq1 c = simp (c.even.ensures, eq-eqb _ _ c.if-order-eq1.true)

pub returns-else-order-eq1 : goal.returns-else-order-eq1
unfolding choice
returns-else-order-eq1 c = simp (c.choice.ensures, ne_eqb _ _ c.if-order-eq1.false)
