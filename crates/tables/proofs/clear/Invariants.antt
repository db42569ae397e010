use mathlib.Core.Path.{◌≡◌}
use Rattle.machine.specs.Passes.{set_below}
use Rattle.tables.proofs.clear.Given as goal

abbrev pub invariant-loop-entry : goal.invariant-loop-entry
invariant-loop-entry g l = l.entry-items ≡ set_below l.zero l.entry-index l.initial.entry-items
