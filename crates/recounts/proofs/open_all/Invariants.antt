use mathlib.Core.Path.{◌≡◌}
use lib.ListN.{length}
use Rattle.machine.specs.Moving.{view}
use Rattle.machine.specs.Passes.{rewritten, walk_place}
use Rattle.recounts.proofs.open_all.Given as goal

abbrev pub invariant-loop-c : goal.invariant-loop-c
invariant-loop-c l = (l.places ≡ rewritten (walk_place (view l.values l.starts l.literals) l.trues) l.c l.initial.places) × (length l.places ≡ length l.initial.places)
