use mathlib.Core.Path.{refl, sym, ◌∙◌}
use Rattle.agreeing_file.specs.Matching.{clause_next, pass_clause}
use Rattle.laws.proofs.Tests.{not-both}
use Rattle.agreeing_file.proofs.Passing.{fails, again, ended}
use Rattle.agreeing_file.proofs.clause_next.Goals as goal

pub loop-l-preserved : goal.loop-l-preserved
loop-l-preserved c =
    let call = c.literal_next in
    let told = rw c.from.ensures at call.ensures in
    let inv = c.loop-l.invariant in (
      call.auto.passed ∙ inv.0,
      again _ _ _ _ _ _ _ inv.1 c.loop-l-test.true (sym told.0 ∙ c.if-not-literal_next.false) (told.1 c.if-not-literal_next.false),
    )

pub returns-then-not-literal_next : goal.returns-then-not-literal_next
unfolding clause_next
returns-then-not-literal_next c = (
  fails _ _ _ _ _ _ c.loop-l.invariant.1 c.loop-l-test.true (sym (rw c.from.ensures at c.literal_next.ensures).0 ∙ c.if-not-literal_next.true),
  λ e. not-both e refl,
)

pub returns : goal.returns
unfolding clause_next pass_clause
returns c = let end = ended _ _ _ _ _ _ c.loop-l.invariant.1 c.loop-l-test.false in (end.0, λ e. end.1)
