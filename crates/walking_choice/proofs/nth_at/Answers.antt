-- `walking_choice::nth_at` meets its contract: the literals that are to be passed yet lead to it. Assumes nothing.
use native.Mathlib.Omega.{arith}
use Rattle.written.specs.Marks.{free_in}
use Rattle.walking_choice.specs.Choosing.{is_free_in, is_tie}
use Rattle.walking_choice.proofs.Among.{plain-free, byte-one, one-few, go-few, go-begun, go-more, go-last, go-on}
use Rattle.walking_choice.proofs.LeastBreaks.{has-entry}
use Rattle.walking_choice.proofs.Ties.{tie_stands, tie_is}
use Rattle.walking_choice.proofs.nth_at.Goals as goal

pub overflow_add-left : goal.overflow_add-left
overflow_add-left c =
    let a = c.args in
    omega (arith, go-few (is_tie a.breaks.now a.marks.now a.m) a.clause.now a.j (tie_stands _ _ _ _ _ c.requires.1), c.well_formed.1.1.0.1)

pub loop-l-init : goal.loop-l-init
loop-l-init c = (go-begun _ _ _ (tie_stands _ _ _ _ _ c.requires.1), omega arith)

pub is_at-requires : goal.is_at-requires
unfolding free_in is_free_in
is_at-requires c =
    let p = c.requires in
    let stands = c.loop-l-test.true in
    (has-entry _ _ _ p.0.breaks stands, has-entry _ _ _ p.0.marks stands, λ q. plain-free _ _ _ (p.2 q) stands)

pub overflow_sub-left : goal.overflow_sub-left
overflow_sub-left c = omega (arith, one-few _ (byte-one _ c.from-left.ensures), c.loop-l.invariant.1)

pub returns-then-left-eq0 : goal.returns-then-left-eq0
returns-then-left-eq0 c =
    tie_is _ _ _ _ _ (go-last _ _ _ _ _ _ c.loop-l.invariant.0 c.loop-l.invariant.1 c.is_at.ensures (byte-one _ c.from-left.ensures) c.if-left-eq0.true)

pub loop-l-preserved : goal.loop-l-preserved
loop-l-preserved c = (go-more _ _ _ _ _ _ c.loop-l.invariant.0 c.loop-l.invariant.1 c.is_at.ensures (byte-one _ c.from-left.ensures), omega arith)

pub unreachable-requires : goal.unreachable-requires
unreachable-requires c = go-on _ _ _ _ _ c.loop-l.invariant.0 c.loop-l.invariant.1 c.loop-l-test.false
