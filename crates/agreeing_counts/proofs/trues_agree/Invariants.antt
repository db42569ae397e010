use mathlib.Core.Path.{◌≡◌}
use mathlib.Core.Bool.{true}
use Rattle.written.specs.Lists.{all, below}
use Rattle.machine.specs.Moving.{view}
use Rattle.machine.specs.Tested.{true_tested}
use Rattle.agreeing_counts.proofs.trues_agree.Given as goal

abbrev pub invariant-loop-c : goal.invariant-loop-c
invariant-loop-c l = all (true_tested (view l.values l.starts l.literals) l.trues) (below l.c) ≡ true
