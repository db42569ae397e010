-- `running_report::refusal` meets its contract: it is put together from its calls. Assumes nothing.
use borrow.Author.Rules.{rules}
use mathlib.Core.Path.{refl}
use Rattle.pages.proofs.Pieces.{handed, first_fits, onward, ended, closed}
use Rattle.running_report.proofs.Lines.{refusal-left}
use Rattle.running_report.proofs.refusal.Goals as goal

pub put_all-requires : goal.put_all-requires
put_all-requires c = first_fits (handed c.new-page.ensures.front (refusal-left _ _ _ _ refl c.requires))

pub put_line-requires : goal.put_line-requires
put_line-requires c =
    let left = handed c.new-page.ensures.front (refusal-left _ _ _ _ c.number_of.ensures c.requires) in
    first_fits (onward left c.put_all.ensures.bytes)

pub put_line-requires-2 : goal.put_line-requires-2
put_line-requires-2 c =
    let left = handed c.new-page.ensures.front (refusal-left _ _ _ _ c.number_of.ensures c.requires) in
    first_fits (onward (onward left c.put_all.ensures.bytes) c.put_line.ensures.bytes)

pub returns : goal.returns
returns c =
    let left = handed c.new-page.ensures.front (refusal-left _ _ _ _ c.number_of.ensures c.requires) in
    let all = ended (onward (onward (onward left c.put_all.ensures.bytes) c.put_line.ensures.bytes) c.put_line-2.ensures.bytes) in
    closed c.len.ensures (search rules) all
