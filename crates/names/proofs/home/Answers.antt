-- `names::home` meets its contract: it is the home that is said. Assumes nothing.
use borrow.Author.Rules.{rules}
use Rattle.machine.specs.Slots.{home_of}
use Rattle.names.proofs.home.Goals as goal

pub returns : goal.returns
unfolding home_of
returns c = search rules
