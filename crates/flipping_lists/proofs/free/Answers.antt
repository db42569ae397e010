-- `flipping_lists::free` meets its contract: the library's test of every entry. Assumes nothing.
use mathlib.Core.Path.{◌∙◌}
use borrow.Author.Rules.{rules}
use borrow.Author.Tests.{tests}
use Rattle.std.proofs.lemmas.Iterator.{YieldsList-from_slice}
use Rattle.std.proofs.lemmas.Iterator.Search.{all_from_yields_List}
use Rattle.written.specs.Marks.{is_free}
use Rattle.flipping_lists.proofs.FlipLists.{every-entry}
use Rattle.flipping_lists.proofs.free.Goals as goal

pub returns : goal.returns
returns c =
    let list = c.args.list.now in
    all_from_yields_List (is_free c.args.marks.now) _ _ c.all.result c.all.ensures.ran (YieldsList-from_slice list cc) (λ x b q k. search (rules, tests))
    ∙ every-entry (is_free c.args.marks.now) list
