use Rattle.occurrences.proofs.Rounding.{count-can, sum-can, put-can, turned_round_lem}
use Rattle.occurrences.proofs.turn_round.Goals as goal

pub start_runs-requires : goal.start_runs-requires
start_runs-requires c = search (count-can, sum-can)

pub put_all-requires : goal.put_all-requires
put_all-requires c = search put-can

pub returns : goal.returns
returns c =
    let pre = c.requires in
    turned_round_lem _ _ _ _ _ _ _ _ _ pre c.start_runs.ensures.0 c.start_runs.ensures.1 c.put_all.ensures c.clear.ensures
