-- `flipping::Tallies::enter` meets its contract: the code is the definition, written out. Assumes nothing.
use Rattle.machine.specs.Uncovered.{enters}
use Rattle.flipping.proofs.Tallies.enter.Goals as goal

pub returns-clause-listed : goal.returns-clause-listed
unfolding enters
returns-clause-listed c = rw c.from.ensures
