-- `flipping::flip_term` meets its contract: it is put together from its calls. Assumes nothing.
use borrow.Author.Rules.{rules}
use native.Mathlib.Omega.{arith}
use Rattle.machine.specs.Tallies.{tallies}
use Rattle.machine.specs.Moving.{moving, occurring}
use Rattle.machine.proofs.Calls.{other-down, can-down, is-gained, can_lose, is-flipped}
use Rattle.flipping.proofs.flip_term.Goals as goal

pub part-losses-requires : goal.part-losses-requires
part-losses-requires c = can-down _ _ _ c.requires (other-down _ _ c.up_literal-up.ensures)

pub run_through-requires-2 : goal.run_through-requires-2
run_through-requires-2 c =
    let up = c.up_literal-up.ensures in
    let can = c.requires in
    (can_lose _ _ _ can (is-gained _ _ _ c.run_through.ensures.counts c.part-gains.ensures up) c.part-losses.ensures (other-down _ _ up), omega (arith, can.small))

pub returns : goal.returns
returns c =
    let up = c.up_literal-up.ensures in
    let a = c.args in
    is-flipped (occurring a.occurrence_starts.now a.occurrences.now) a.v
    (moving a.values.now (tallies a.trues.now a.breaks.now a.list.now a.places.now a.number))
    (is-gained _ _ _ c.run_through.ensures.counts c.part-gains.ensures up)
    c.turn.ensures
    c.part-losses.ensures (other-down _ _ up) (search rules)
