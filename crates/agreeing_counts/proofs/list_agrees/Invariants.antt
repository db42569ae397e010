use mathlib.Core.Path.{◌≡◌}
use mathlib.Core.Bool.{true}
use Rattle.written.specs.Lists.{all, below}
use Rattle.machine.specs.Tested.{place_tested}
use Rattle.agreeing_counts.proofs.list_agrees.Given as goal

abbrev pub invariant-loop-c : goal.invariant-loop-c
invariant-loop-c l = all (place_tested l.n.uncovered l.trues l.uncovered l.places) (below l.c) ≡ true
