use mathlib.Core.Path.{refl}
use Rattle.machine.specs.Tallies.{raised}
use Rattle.tables.proofs.raise.Goals as goal

pub returns : goal.returns
unfolding raised
returns c = refl
