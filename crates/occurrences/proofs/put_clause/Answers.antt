use mathlib.Core.Path.{◌∙◌}
use Rattle.machine.proofs.Runs.{next-can, again}
use Rattle.occurrences.proofs.put_clause.Goals as goal

pub put_one-requires : goal.put_one-requires
put_one-requires c = rw c.from.ensures (next-can _ _ _ _ _ _ c.loop-l.invariant.0 c.loop-l-test.true)

pub loop-l-preserved : goal.loop-l-preserved
loop-l-preserved c =
    let inv = c.loop-l.invariant in (
      again _ _ _ _ _ _ _ inv.0 c.loop-l-test.true (rw c.from.ensures at c.put_one.ensures),
      c.put_one.auto.occurrences ∙ inv.1,
      c.put_one.auto.cursors ∙ inv.2,
    )
