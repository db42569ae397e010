-- `agreeing::counts_fit` meets its contract: the five tests, joined. Assumes nothing.
use Rattle.std.proofs.Math.Bool.{and_assoc}
use Rattle.written.specs.Agreement.{counts_fit}
use Rattle.agreeing.proofs.counts_fit.Goals as goal

pub returns : goal.returns
unfolding counts_fit
returns c = simp and_assoc
