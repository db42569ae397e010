-- `reading_end::clear_others` meets its contract: it is put together from its calls. Assumes nothing.
use Rattle.words.specs.Words.{word_count}
use Rattle.written.specs.Tables.{sizes, full_sizes}
use Rattle.reading_end.specs.Clearing.{others, wiped_others}
use Rattle.reading_end.proofs.clear_others.Goals as goal

pub returns : goal.returns
unfolding wiped_others full_sizes sizes word_count
returns c =
    λ i. others (c.clear.ensures i) (c.clear-2.ensures i) (c.clear-3.ensures i) (c.clear-4.ensures i) (c.clear-5.ensures i)
