use Rattle.written.specs.Agreement.{part_of}
use Rattle.tables.proofs.part.Goals as goal

pub returns : goal.returns
unfolding part_of
returns c = rw (c.from-from.ensures, c.from-to.ensures)
