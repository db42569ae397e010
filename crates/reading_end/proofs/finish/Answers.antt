-- `reading_end::finish` meets its contract: it is put together from its calls. Assumes nothing.
use native.Mathlib.Omega.{arith}
use Rattle.reading_end.proofs.Finished.{can-turn, can_recount, can_close, number-low, is-finished}
use Rattle.reading_end.proofs.finish.Goals as goal

pub turn_round-requires : goal.turn_round-requires
turn_round-requires c = can-turn _ _ _ _ _ c.requires c.clear_rest.ensures c.clear.ensures c.clear-2.ensures

pub count_afresh-number-requires : goal.count_afresh-number-requires
count_afresh-number-requires c = can_recount _ _ _ _ _ c.requires c.clear_rest.ensures c.clear.ensures c.clear-2.ensures c.turn_round.ensures

pub close_all-requires : goal.close_all-requires
close_all-requires c =
    can_close _ _ _ _ _ c.requires c.clear_rest.ensures c.clear.ensures c.clear-2.ensures c.turn_round.ensures c.count_afresh-number.ensures

pub overflow_cast-result : goal.overflow_cast-result
overflow_cast-result c =
    omega (arith, number-low _ _ _ _ _ c.requires c.clear_rest.ensures c.clear.ensures c.clear-2.ensures c.turn_round.ensures c.count_afresh-number.ensures)

pub returns : goal.returns
returns c =
    is-finished _ _ _ _ _ c.requires c.clear_rest.ensures c.clear.ensures c.clear-2.ensures c.turn_round.ensures c.count_afresh-number.ensures c.close_all.ensures
