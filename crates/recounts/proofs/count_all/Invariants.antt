use mathlib.Core.Path.{◌≡◌}
use Rattle.machine.specs.Tallies.{tallies, SameSizes}
use Rattle.machine.specs.Moving.{view}
use Rattle.machine.specs.Passes.{counted}
use Rattle.recounts.proofs.count_all.Given as goal

abbrev pub invariant-loop-c : goal.invariant-loop-c
invariant-loop-c l =
    (tallies l.trues l.breaks l.list l.places l.number ≡ counted l.c (view l.values l.starts l.literals) (tallies l.initial.trues l.initial.breaks l.initial.list l.initial.places 0))
    × SameSizes (tallies l.trues l.breaks l.list l.places l.number) (tallies l.initial.trues l.initial.breaks l.initial.list l.initial.places 0)
