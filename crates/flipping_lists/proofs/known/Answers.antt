-- `flipping_lists::known` meets its contract: the library's test of every entry. Assumes nothing.
use lib.Dec.{ltb}
use mathlib.Core.Path.{◌∙◌}
use borrow.Author.Rules.{rules}
use borrow.Author.Tests.{tests}
use Rattle.std.proofs.lemmas.Iterator.{YieldsList-from_slice}
use Rattle.std.proofs.lemmas.Iterator.Search.{all_from_yields_List}
use Rattle.flipping_lists.proofs.FlipLists.{every-entry}
use Rattle.flipping_lists.proofs.known.Goals as goal

pub returns : goal.returns
returns c =
    let list = c.args.list.now in
    all_from_yields_List (λ v. ltb v c.args.terms) _ _ c.all.result c.all.ensures.ran (YieldsList-from_slice list cc) (λ x b q k. search (rules, tests))
    ∙ every-entry (λ v. ltb v c.args.terms) list
