-- `scan::skip` meets its contract: the run from i ends where the run from `at` does. Assumes nothing.
use native.Mathlib.Omega.{arith}
use mathlib.Core.Path.{sym, ◌∙◌}
use Rattle.scan.specs.Scan.{is_of}
use Rattle.scan.proofs.Laws.{past_more, past_stop, past_end}
use Rattle.scan.proofs.skip.Goals as goal

pub returns-then-not-is : goal.returns-then-not-is
returns-then-not-is c =
    sym (past_stop (is_of c.args.k) _ _ c.loop-i-test.true (sym c.is.ensures ∙ c.if-not-is.true))
    ∙ c.loop-i.invariant.1

pub loop-i-preserved : goal.loop-i-preserved
loop-i-preserved c = (
  omega arith,
  past_more (is_of c.args.k) _ _ c.loop-i-test.true (sym c.is.ensures ∙ c.if-not-is.false) ∙ c.loop-i.invariant.1,
)

pub returns : goal.returns
returns c = omega (arith, past_end (is_of c.args.k) c.args.text.now c.loop-i.i c.loop-i-test.false, c.loop-i.invariant.1)
