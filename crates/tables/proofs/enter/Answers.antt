use Rattle.machine.specs.Uncovered.{enters}
use Rattle.tables.proofs.enter.Goals as goal

pub returns : goal.returns
unfolding enters
returns c = rw c.from.ensures
