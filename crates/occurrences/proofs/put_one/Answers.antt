use Rattle.occurrences.proofs.Filling.{put_is}
use Rattle.occurrences.proofs.put_one.Goals as goal

pub returns : goal.returns
returns c =
    let from = c.from-from.ensures in
    let to = c.from-to.ensures in
    rw (from, to) (put_is _ _ _ _ _ _ c.requires (rw (from, to, c.from-k.ensures) at c.put.ensures) c.raise.ensures)
