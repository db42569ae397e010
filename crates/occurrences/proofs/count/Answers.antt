use mathlib.Core.Path.{◌∙◌}
use Rattle.machine.proofs.Runs.{next-can, again}
use Rattle.occurrences.proofs.count.Goals as goal

pub raise-requires : goal.raise-requires
raise-requires c = rw c.from.ensures (next-can _ _ _ _ _ _ c.loop-l.invariant.0 c.loop-l-test.true)

pub loop-l-preserved : goal.loop-l-preserved
loop-l-preserved c =
    let inv = c.loop-l.invariant in
    (again _ _ _ _ _ _ _ inv.0 c.loop-l-test.true (rw c.from.ensures at c.raise.ensures), c.raise.auto.counts ∙ inv.1)
