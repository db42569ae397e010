use mathlib.Core.Path.{◌≡◌}
use Prim.Native.Nat.{◌+◌, ◌≤◌}
use lib.ListN.{drop}
use Rattle.written.specs.Lists.{total}
use Rattle.machine.specs.Literals.{value_in}
use Rattle.tables.proofs.true_count.Given as goal

abbrev pub invariant-loop-l : goal.invariant-loop-l
invariant-loop-l l = (l.count ≤ l.l-index) × (l.count + total (value_in l.words) (drop l.l-index l.clause) ≡ total (value_in l.words) l.clause)
