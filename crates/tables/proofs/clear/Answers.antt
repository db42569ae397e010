use mathlib.Core.Path.{refl}
use Rattle.machine.proofs.Rewritten.{up_none, up_more}
use Rattle.machine.specs.Passes.{set_below}
use Rattle.tables.proofs.Clearing.{front-end}
use Rattle.tables.proofs.clear.Goals as goal

pub loop-entry-init : goal.loop-entry-init
unfolding set_below
loop-entry-init g c = up_none _ _

pub loop-entry-preserved : goal.loop-entry-preserved
unfolding set_below
loop-entry-preserved g c = up_more _ _ _ _ _ c.loop-entry.invariant refl

pub returns : goal.returns
returns g c = front-end _ _ _ _ _ _ c.least-last.ensures c.loop-entry.invariant c.loop-entry.auto.entry-index-end c.loop-entry-test.false
