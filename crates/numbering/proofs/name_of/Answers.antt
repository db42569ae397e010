-- `numbering::name_of` meets its contract: the digits put so far follow those that are left. Assumes nothing.
use native.Mathlib.Omega.{arith}
use Rattle.laws.proofs.NumberedNames.{spelling_more, spelling_ended, spelling_room}
use Rattle.numbering.proofs.name_of.Goals as goal

pub overflow_mul-name : goal.overflow_mul-name
overflow_mul-name c = omega (arith, spelling_room _ _ _ c.loop-rest.invariant 7 c.requires)

pub overflow_add-name-in-loop-rest : goal.overflow_add-name-in-loop-rest
overflow_add-name-in-loop-rest c = omega (arith, spelling_room _ _ _ c.loop-rest.invariant 7 c.requires)

pub loop-rest-preserved : goal.loop-rest-preserved
loop-rest-preserved c = spelling_more _ _ _ c.loop-rest.invariant c.loop-rest-test.true

pub overflow_mul-result : goal.overflow_mul-result
overflow_mul-result c = omega (arith, spelling_room _ _ _ c.loop-rest.invariant 7 c.requires)

pub overflow_add-result-2 : goal.overflow_add-result-2
overflow_add-result-2 c = omega (arith, spelling_room _ _ _ c.loop-rest.invariant 7 c.requires, c.loop-rest-test.false)

pub returns : goal.returns
returns c = spelling_ended _ _ _ c.loop-rest.invariant c.loop-rest-test.false
