-- `reading_end::clear_draft` meets its contract: it is put together from its calls. Assumes nothing.
use Rattle.written.specs.Tables.{sizes, full_sizes}
use Rattle.reading_lines.specs.Drafting.{desk}
use Rattle.reading_end.specs.Clearing.{wiped}
use Rattle.reading_end.proofs.clear_draft.Goals as goal

pub returns : goal.returns
unfolding wiped full_sizes sizes
returns c =
    λ i. desk (c.clear.ensures i) (c.clear-2.ensures i) (c.clear-3.ensures i) (c.clear-4.ensures i) (c.clear-5.ensures i)
