use mathlib.Core.Path.{◌≡◌}
use mathlib.Core.Bool.{true}
use Rattle.written.specs.Lists.{all, below}
use Rattle.machine.specs.Tested.{break_tested}
use Rattle.agreeing_counts.proofs.breaks_agree.Given as goal

abbrev pub invariant-loop-t : goal.invariant-loop-t
invariant-loop-t l = all (break_tested l.values l.occurrence_starts l.occurrences l.trues l.breaks) (below l.t) ≡ true
