-- `tables::Tables::are_full` meets its contract: the ten tests, joined. Assumes nothing.
use Rattle.words.specs.Words.{word_count}
use Rattle.written.specs.Tables.{every, each, sizes, full_sizes, are_full}
use Rattle.std.proofs.Math.Bool.{and_assoc}
use Rattle.tables.proofs.Tables.are_full.Goals as goal

pub returns : goal.returns
unfolding are_full every each full_sizes sizes word_count
returns c = simp and_assoc
