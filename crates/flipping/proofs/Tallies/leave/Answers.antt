-- `flipping::Tallies::leave` meets its contract: the code is the definition, written out. Assumes nothing.
use Rattle.machine.specs.Uncovered.{leaves}
use Rattle.flipping.proofs.Tallies.leave.Goals as goal

pub returns-clause-listed : goal.returns-clause-listed
unfolding leaves
returns-clause-listed c = rw (c.from.ensures, c.from-2.ensures, c.from-at.ensures)
