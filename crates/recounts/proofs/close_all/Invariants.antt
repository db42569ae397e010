use mathlib.Core.Path.{◌≡◌}
use lib.ListN.{length}
use Rattle.machine.specs.Passes.{rewritten, rest_place}
use Rattle.recounts.proofs.close_all.Given as goal

abbrev pub invariant-loop-c : goal.invariant-loop-c
invariant-loop-c l = (l.places ≡ rewritten (rest_place l.trues) l.c l.initial.places) × (length l.places ≡ length l.initial.places)
