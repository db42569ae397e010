-- `numbering::name_of` meets its contract: the digits put so far follow those that are left. Assumes nothing.
use Rattle.laws.proofs.NumberedNames.{Spelling}
use Rattle.numbering.proofs.name_of.Given as goal

abbrev pub invariant-loop-rest : goal.invariant-loop-rest
invariant-loop-rest l = Spelling l.v l.rest l.name

abbrev pub decreases-loop-rest : goal.decreases-loop-rest
decreases-loop-rest l = l.rest
