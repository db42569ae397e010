use native.Mathlib.Omega.{arith}
use Rattle.agreeing_file.proofs.Marks.{marking_again, marking_fails, marking_ended}
use Rattle.agreeing_file.proofs.clauses_agree.Goals as goal

pub loop-c-preserved : goal.loop-c-preserved
loop-c-preserved c =
    let call = c.clause_agrees in
    let inv = c.loop-c.invariant in
    let w = c.requires.0.terms in
    let yes = c.if-not-clause_agrees.false in
    (omega arith, omega arith, marking_again _ _ _ _ _ _ _ inv.2 (omega arith) c.part.ensures call.ensures.0 _ (call.ensures.1 yes) yes)

pub returns-then-not-clause_agrees : goal.returns-then-not-clause_agrees
returns-then-not-clause_agrees c =
    let inv = c.loop-c.invariant in
    let w = c.requires.0.terms in
    marking_fails _ _ _ _ _ _ _ inv.2 (omega arith) c.part.ensures c.clause_agrees.ensures.0 _ c.loop-c-test.true c.if-not-clause_agrees.true

pub returns : goal.returns
returns c = marking_ended _ _ _ _ _ _ c.loop-c.invariant.2 c.loop-c.invariant.0 c.loop-c-test.false
