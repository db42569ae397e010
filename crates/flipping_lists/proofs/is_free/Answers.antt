-- `flipping_lists::is_free` meets its contract: past the marks a term is free. Assumes nothing.
use borrow.Author.Rules.{rules}
use borrow.Author.Tests.{tests}
use Rattle.written.specs.Marks.{is_free}
use Rattle.flipping_lists.proofs.Laws.{free-past}
use Rattle.flipping_lists.proofs.is_free.Goals as goal

pub returns : goal.returns
unfolding is_free
returns c = search (rules, tests, free-past)
