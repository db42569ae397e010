-- `walking_steps::one_walk` meets its contract: it is put together from its calls. Assumes nothing.
use Rattle.walking_steps.proofs.Calls.{can-start, can-go, is-walked}
use Rattle.walking_steps.proofs.one_walk.Goals as goal

pub start-at-requires : goal.start-at-requires
start-at-requires c = can-start _ _ _ _ _ c.requires.0

pub onwards-requires : goal.onwards-requires
onwards-requires c =
    let p = c.requires in
    can-go _ _ _ _ _ c.start-at.ensures c.any_pinned-pinned.ensures p.0 p.1

pub returns : goal.returns
returns c = is-walked _ _ _ _ _ c.start-at.ensures _ c.onwards.ensures
