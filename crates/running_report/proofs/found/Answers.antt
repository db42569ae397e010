-- `running_report::found` meets its contract: it is put together from its calls. Assumes nothing.
use mathlib.Core.Path.{refl}
use borrow.Author.Rules.{rules}
use Rattle.pages.proofs.Pieces.{handed, first_fits, onward, ended, closed}
use Rattle.running_report.proofs.Lines.{found_left}
use Rattle.running_report.proofs.found.Goals as goal

pub put_tour-requires : goal.put_tour-requires
put_tour-requires c = first_fits (handed c.new-page.ensures.front (found_left _ _ _ _ _ _ refl c.requires.fits))

pub put_line-requires : goal.put_line-requires
put_line-requires c =
    let left = handed c.new-page.ensures.front (found_left _ _ _ _ _ _ c.chosen.ensures c.requires.fits) in
    first_fits (onward left c.put_tour.ensures.bytes)

pub put_all-requires : goal.put_all-requires
put_all-requires c =
    let left = handed c.new-page.ensures.front (found_left _ _ _ _ _ _ c.chosen.ensures c.requires.fits) in
    first_fits (onward (onward left c.put_tour.ensures.bytes) c.put_line.ensures.bytes)

pub put_answer-requires : goal.put_answer-requires
put_answer-requires c =
    let left = handed c.new-page.ensures.front (found_left _ _ _ _ _ _ c.chosen.ensures c.requires.fits) in
    let after = onward (onward (onward left c.put_tour.ensures.bytes) c.put_line.ensures.bytes) c.put_all.ensures.bytes in
    record { named = c.requires.named; fits = first_fits after }

pub put_byte-requires : goal.put_byte-requires
put_byte-requires c =
    let left = handed c.new-page.ensures.front (found_left _ _ _ _ _ _ c.chosen.ensures c.requires.fits) in
    let after = onward (onward (onward left c.put_tour.ensures.bytes) c.put_line.ensures.bytes) c.put_all.ensures.bytes in
    first_fits (onward after c.put_answer.ensures.bytes)

pub returns : goal.returns
returns c =
    let left = handed c.new-page.ensures.front (found_left _ _ _ _ _ _ c.chosen.ensures c.requires.fits) in
    let after = onward (onward (onward left c.put_tour.ensures.bytes) c.put_line.ensures.bytes) c.put_all.ensures.bytes in
    closed c.len.ensures (search rules) (ended (onward (onward after c.put_answer.ensures.bytes) c.put_byte.ensures.bytes))
