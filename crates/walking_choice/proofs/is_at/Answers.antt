-- `walking_choice::is_at` meets its contract: each way out has the test that leads there. Assumes nothing.
use Rattle.walking_choice.specs.Choosing.{is_tie}
use Rattle.walking_choice.proofs.is_at.Goals as goal

pub returns-then-is_looked_at : goal.returns-then-is_looked_at
unfolding is_tie
returns-then-is_looked_at c = rw (← c.is_looked_at.ensures, c.if-is_looked_at.true, c.break_of.ensures)

pub returns-else-is_looked_at : goal.returns-else-is_looked_at
unfolding is_tie
returns-else-is_looked_at c = rw (← c.is_looked_at.ensures, c.if-is_looked_at.false)
