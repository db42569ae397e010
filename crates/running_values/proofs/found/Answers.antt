-- `running_values::found` meets its contract: it is put together from its calls. Assumes nothing.
use borrow.Author.Rules.{rules}
use Rattle.pages.proofs.Pieces.{handed, first_fits, onward, ended, closed}
use Rattle.running_values.proofs.Lines.{found_left}
use Rattle.running_values.proofs.found.Goals as goal

pub put_tour-requires : goal.put_tour-requires
put_tour-requires c = first_fits (handed c.new-page.ensures.front (found_left _ _ _ c.requires))

pub put_values-requires : goal.put_values-requires
put_values-requires c = first_fits (onward (handed c.new-page.ensures.front (found_left _ _ _ c.requires)) c.put_tour.ensures.bytes)

pub returns : goal.returns
returns c =
    let left = handed c.new-page.ensures.front (found_left _ _ _ c.requires) in
    closed c.len.ensures (search rules) (ended (onward (onward left c.put_tour.ensures.bytes) c.put_values.ensures.bytes))
