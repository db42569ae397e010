-- `running_alone::run_alone` meets its contract: its tables are full, so the run begins. Assumes nothing.
use mathlib.Core.Path.{refl}
use borrow.Author.Rules.{rules}
use Rattle.words.specs.Words.{word_count}
use Rattle.written.specs.Limits.{narrow}
use Rattle.written.specs.Marks.{marks_full}
use Rattle.written.specs.Tables.{are_full, every, each, full_sizes, sizes}
use Rattle.running_alone.proofs.Alone.{alone-ends, front-within}
use Rattle.running_alone.proofs.run_alone.Goals as goal

pub returns : goal.returns
unfolding are_full every each full_sizes sizes word_count marks_full
returns c =
    let e = alone-ends _ narrow _ _ (search rules) _ _ refl refl c.run_sheet-answer.ensures in
    (e, front-within _ _ e)
