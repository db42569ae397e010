-- `walking_steps::start` meets its contract: it is put together from its calls. Assumes nothing.
use Rattle.walking_steps.proofs.Calls.{can-count, is_started}
use Rattle.walking_steps.proofs.start.Goals as goal

pub count_afresh-number-requires : goal.count_afresh-number-requires
count_afresh-number-requires c = can-count _ _ _ _ _ c.fill-drawn.ensures.1 c.hold_all.ensures c.requires

pub returns : goal.returns
returns c =
    let f = c.fill-drawn.ensures in
    is_started _ _ _ _ _ f.1 c.hold_all.ensures f.0 c.count_afresh-number.ensures
