-- `running_values::gave_up` meets its contract: it is put together from its calls. Assumes nothing.
use borrow.Author.Rules.{rules}
use Rattle.pages.proofs.Pieces.{handed, first_fits, onward, ended, closed}
use Rattle.running_values.proofs.Lines.{gave_up-left}
use Rattle.running_values.proofs.gave_up.Goals as goal

pub put_tour-requires : goal.put_tour-requires
put_tour-requires c = first_fits (handed c.new-page.ensures.front (gave_up-left _ _ c.requires))

pub returns : goal.returns
returns c =
    let left = handed c.new-page.ensures.front (gave_up-left _ _ c.requires) in
    closed c.len.ensures (search rules) (ended (onward left c.put_tour.ensures.bytes))
