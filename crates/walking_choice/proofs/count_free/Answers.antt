-- `walking_choice::count_free` meets its contract: how many of the literals so far are of free terms. Assumes nothing.
use native.Mathlib.Omega.{arith}
use Rattle.written.specs.Marks.{free_in}
use Rattle.walking_choice.specs.Choosing.{is_free_in}
use Rattle.walking_choice.proofs.Among.{byte-one, one-few, count-few, count-more, count-done}
use Rattle.walking_choice.proofs.count_free.Goals as goal

pub is_free-requires : goal.is_free-requires
is_free-requires c = c.requires.terms _ c.loop-l-test.true

pub overflow_add-n : goal.overflow_add-n
overflow_add-n c = omega (arith, one-few _ (byte-one _ c.from-n.ensures), count-few _ _ _ _ c.loop-l.invariant, c.well_formed.1.0.1)

pub loop-l-preserved : goal.loop-l-preserved
loop-l-preserved c = count-more _ _ _ _ _ c.loop-l.invariant c.loop-l-test.true c.is_free.ensures (byte-one _ c.from-n.ensures)

pub returns : goal.returns
unfolding free_in is_free_in
returns c = count-done _ _ _ _ c.loop-l.invariant c.loop-l-test.false
