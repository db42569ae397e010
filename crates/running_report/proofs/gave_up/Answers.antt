-- `running_report::gave_up` meets its contract: it is put together from its calls. Assumes nothing.
use borrow.Author.Rules.{rules}
use Rattle.pages.proofs.Pieces.{handed, first_fits, onward, ended, closed}
use Rattle.running_report.proofs.Lines.{gave_up-left}
use Rattle.running_report.proofs.gave_up.Goals as goal

pub put_tour-requires : goal.put_tour-requires
put_tour-requires c = first_fits (handed c.new-page.ensures.front (gave_up-left _ _ c.requires))

pub put_all-requires : goal.put_all-requires
put_all-requires c = first_fits (onward (handed c.new-page.ensures.front (gave_up-left _ _ c.requires)) c.put_tour.ensures.bytes)

pub put_all-requires-2 : goal.put_all-requires-2
put_all-requires-2 c =
    let left = handed c.new-page.ensures.front (gave_up-left _ _ c.requires) in
    first_fits (onward (onward left c.put_tour.ensures.bytes) c.put_all.ensures.bytes)

pub returns : goal.returns
returns c =
    let left = handed c.new-page.ensures.front (gave_up-left _ _ c.requires) in
    let all = ended (onward (onward (onward left c.put_tour.ensures.bytes) c.put_all.ensures.bytes) c.put_all-2.ensures.bytes) in
    closed c.len.ensures (search rules) all
