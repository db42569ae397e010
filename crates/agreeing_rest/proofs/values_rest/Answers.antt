-- `agreeing_rest::values_rest` meets its contract: the part lent is the rest. Assumes nothing.
use Rattle.std.proofs.Common.{rules}
use Rattle.agreeing_rest.proofs.Zeros.{rest_zeros}
use Rattle.agreeing_rest.proofs.values_rest.Goals as goal

pub returns : goal.returns
returns c = rest_zeros c.args.from c.args.full c.args.words.now (search rules)
