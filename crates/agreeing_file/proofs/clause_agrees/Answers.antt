use mathlib.Core.Path.{refl}
use lib.ListN.{length-set}
use Rattle.laws.proofs.Tests.{not-both}
use Rattle.agreeing_file.proofs.Passing.{fails, again, ended}
use Rattle.agreeing_file.proofs.Marks.{unknown, repeated, fresh, now-marked}
use Rattle.agreeing_file.proofs.clause_agrees.Goals as goal

pub returns-then-terms-t : goal.returns-then-terms-t
returns-then-terms-t c = (fails _ _ _ _ _ _ c.loop-l.invariant.1 c.loop-l-test.true (unknown _ _ _ _ c.from-t.ensures c.if-terms-t.true), λ e. not-both e refl)

pub returns-then-marks-t : goal.returns-then-marks-t
returns-then-marks-t c =
    (fails _ _ _ _ _ _ c.loop-l.invariant.1 c.loop-l-test.true (repeated _ _ _ _ c.from-t.ensures c.if-terms-t.false c.if-marks-t.true), λ e. not-both e refl)

pub loop-l-preserved : goal.loop-l-preserved
loop-l-preserved c =
    let t = c.from-t.ensures in (
      simp length-set c.loop-l.invariant.0,
      again _ _ _ _ _ _ _ c.loop-l.invariant.1 c.loop-l-test.true (fresh _ _ _ _ t c.if-terms-t.false c.if-marks-t.false) (now-marked c.args.terms c.args.mark _ _ t),
    )

pub returns : goal.returns
returns c = let e = ended _ _ _ _ _ _ c.loop-l.invariant.1 c.loop-l-test.false in (e.0, λ _. e.1)
