-- `walking_choice::nth_free` meets its contract: the literals that are to be passed yet lead to it. Assumes nothing.
use native.Mathlib.Omega.{arith}
use Rattle.written.specs.Marks.{free_in}
use Rattle.walking_choice.specs.Choosing.{is_free_in}
use Rattle.walking_choice.proofs.Among.{byte-one, one-few, go-few, go-begun, go-more, go-last, go-on}
use Rattle.walking_choice.proofs.nth_free.Goals as goal

pub overflow_add-ahead : goal.overflow_add-ahead
unfolding free_in is_free_in
overflow_add-ahead c =
    let a = c.args in
    omega (arith, go-few (is_free_in a.marks.now) a.clause.now a.j c.requires.1, c.well_formed.1.0.1)

pub loop-l-init : goal.loop-l-init
unfolding free_in is_free_in
loop-l-init c = (go-begun _ _ _ c.requires.1, omega arith)

pub is_free-requires : goal.is_free-requires
is_free-requires c = c.requires.0.terms _ c.loop-l-test.true

pub overflow_sub-ahead : goal.overflow_sub-ahead
overflow_sub-ahead c = omega (arith, one-few _ (byte-one _ c.from-ahead.ensures), c.loop-l.invariant.1)

pub returns-then-ahead-eq0 : goal.returns-then-ahead-eq0
unfolding free_in is_free_in
returns-then-ahead-eq0 c = go-last _ _ _ _ _ _ c.loop-l.invariant.0 c.loop-l.invariant.1 c.is_free.ensures (byte-one _ c.from-ahead.ensures) c.if-ahead-eq0.true

pub loop-l-preserved : goal.loop-l-preserved
loop-l-preserved c = (go-more _ _ _ _ _ _ c.loop-l.invariant.0 c.loop-l.invariant.1 c.is_free.ensures (byte-one _ c.from-ahead.ensures), omega arith)

pub unreachable-requires : goal.unreachable-requires
unreachable-requires c = go-on _ _ _ _ _ c.loop-l.invariant.0 c.loop-l.invariant.1 c.loop-l-test.false
