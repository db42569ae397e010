use native.Mathlib.Omega.{arith}
use Rattle.machine.proofs.Scanned.{value_low, count-more}
use Rattle.tables.proofs.true_count.Goals as goal

pub loop-l-preserved : goal.loop-l-preserved
loop-l-preserved c =
    let e = c.literal_value.ensures in
    (omega (arith, value_low _ _ e), count-more _ _ _ c.loop-l.count c.loop-l-test.true e c.loop-l.invariant.1)
