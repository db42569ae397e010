-- `flipping_lists::flip_list` meets its contract: it is put together from its calls. Assumes nothing.
use Rattle.machine.proofs.Calls.{can-flip-all, is-applied}
use Rattle.flipping_lists.proofs.flip_list.Goals as goal

pub flip_all-m-requires : goal.flip_all-m-requires
flip_all-m-requires c = can-flip-all _ _ _ _ _ c.requires c.open_all.ensures

pub returns : goal.returns
returns c = is-applied _ _ _ _ _ c.requires c.open_all.ensures c.flip_all-m.ensures c.close_all.ensures
