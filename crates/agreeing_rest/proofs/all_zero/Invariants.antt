-- `agreeing_rest::all_zero` meets its contract: what the entries are joined to is 0 exactly if each is. Assumes nothing.
use Rattle.machine.proofs.Rest.{Joined}
use Rattle.agreeing_rest.proofs.all_zero.Given as goal

abbrev pub invariant-loop-entry : goal.invariant-loop-entry
invariant-loop-entry l = Joined l.table l.joined l.entry-index
