use mathlib.Core.Path.{refl, ap, ◌∙◌}
use Rattle.agreeing_file.specs.Matching.{pass_clause, clauses_next, pass_clauses}
use Rattle.laws.proofs.Tests.{not-both}
use Rattle.agreeing_file.proofs.Passing.{range-fails, range-again, range-ended}
use Rattle.agreeing_file.proofs.Matching.{clause-is}
use Rattle.agreeing_file.proofs.clauses_next.Goals as goal

pub loop-c-preserved : goal.loop-c-preserved
loop-c-preserved c =
    let call = c.clause_next in
    let part = c.part.ensures in
    let loop = c.loop-c in (
      call.auto.passed ∙ loop.invariant.0,
      range-again _ _ _ _ _ _ loop.invariant.1 _ c.loop-c-test.true (clause-is _ _ _ _ _ _ part call.ensures.0 ∙ c.if-not-clause_next.false)
          (call.ensures.1 c.if-not-clause_next.false ∙ ap (λ xs. pass_clause xs loop.passed) part),
    )

pub returns-then-not-clause_next : goal.returns-then-not-clause_next
unfolding clauses_next
returns-then-not-clause_next c = (
  range-fails _ _ _ _ _ _ c.loop-c.invariant.1 c.loop-c-test.true
      (clause-is _ _ _ _ _ _ c.part.ensures c.clause_next.ensures.0 ∙ c.if-not-clause_next.true),
  λ e. not-both e refl,
)

pub returns : goal.returns
unfolding clauses_next pass_clauses
returns c = let end = range-ended _ _ _ _ _ _ c.loop-c.invariant.1 c.loop-c-test.false in (end.0, λ e. end.1)
