-- `agreeing_rest::all_zero` meets its contract: what the entries are joined to is 0 exactly if each is. Assumes nothing.
use Rattle.machine.proofs.Rest.{one-joined, all-joined}
use Rattle.agreeing_rest.proofs.all_zero.Goals as goal

pub loop-entry-preserved : goal.loop-entry-preserved
loop-entry-preserved c = one-joined _ _ _ c.loop-entry.invariant c.loop-entry-test.true

pub returns : goal.returns
returns c = all-joined _ _ _ c.loop-entry.invariant c.loop-entry-test.false
