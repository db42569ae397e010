-- `agreeing_rest::rest_zero` meets its contract: the part lent is the rest. Assumes nothing.
use Rattle.machine.proofs.Rest.{rest-is}
use Rattle.agreeing_rest.proofs.rest_zero.Goals as goal

pub returns : goal.returns
returns c = rest-is _ _ _ c.all_zero.ensures
