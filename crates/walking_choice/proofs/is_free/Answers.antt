-- `walking_choice::is_free` meets its contract. Assumes nothing.
use Rattle.written.specs.Clauses.{term_of}
use Rattle.written.specs.Marks.{is_free}
use Rattle.walking_choice.specs.Choosing.{is_free_in}
use Rattle.walking_choice.proofs.is_free.Goals as goal

pub returns : goal.returns
unfolding is_free_in is_free term_of
returns c = rw c.from.ensures
