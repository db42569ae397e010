-- `flipping::run_through` meets its contract: a loop over a run of steps. Assumes nothing.
use Rattle.machine.proofs.Runs.{Running}
use Rattle.std.specs.Prelude.{◌≡◌}
use Rattle.machine.specs.Tallies.{tallies_at}
use Rattle.flipping.proofs.run_through.Given as goal

abbrev pub invariant-loop-c : goal.invariant-loop-c
invariant-loop-c g l =
    let t = l.initial.tallies in
    let u = l.tallies in
    Running (g.S.Step.can l.v) (g.S.Step.after l.v) l.run (tallies_at t.trues.now t.breaks.now t.list.now t.places.now t.number) l.c-index
    (tallies_at u.trues.now u.breaks.now u.list.now u.places.now u.number)
    × ((u.trues.ghost_name ≡ t.trues.ghost_name)
    × (u.breaks.ghost_name ≡ t.breaks.ghost_name)
    × (u.list.ghost_name ≡ t.list.ghost_name)
    × (u.places.ghost_name ≡ t.places.ghost_name))
