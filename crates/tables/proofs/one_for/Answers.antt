use Rattle.std.proofs.Common.{arith}
use Rattle.std.proofs.lemmas.Grind.{common_steps}
use Rattle.machine.specs.Tallies.{hit_of}
use Rattle.tables.proofs.one_for.Goals as goal

pub returns : goal.returns
unfolding hit_of
returns c = grind (arith, common_steps)
