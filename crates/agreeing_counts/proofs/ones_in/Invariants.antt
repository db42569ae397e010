use mathlib.Core.Path.{◌≡◌}
use Prim.Native.Nat.{◌+◌, ◌≤◌}
use lib.ListN.{drop}
use Rattle.machine.specs.Tested.{ones_in}
use Rattle.agreeing_counts.proofs.ones_in.Given as goal

abbrev pub invariant-loop-c : goal.invariant-loop-c
invariant-loop-c l = (l.ones ≤ l.c-index) × (l.ones + ones_in l.trues (drop l.c-index l.run) ≡ ones_in l.trues l.run)
