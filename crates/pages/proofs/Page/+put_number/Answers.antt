-- `pages::Page::put_number` meets its contract: the digits of the tenth, then the last; the measure is the number. Assumes nothing.
use mathlib.Core.Path.{ap, ◌∙◌}
use mathlib.Core.List.{◌∷◌, []}
use native.Mathlib.Omega.{arith}
use Rattle.laws.proofs.Decimals.{decimal-more}
use Rattle.pages.specs.Pages.{page_of}
use Rattle.pages.proofs.Putting.{fits-first}
use Rattle.pages.proofs.Pieces.{begun, first_fits, onward, ended}
use Rattle.pages.proofs.Spelt.{decimal_last}
use Rattle.pages.proofs.Page.+put_number.Goals as goal
use Rattle.pages.proofs.Page.+put_number.Goals.{then-n-ge10, else-n-ge10}

pub put_number-requires : goal.put_number-requires
put_number-requires t c = (omega arith, fits-first _ _ _ (rw (decimal-more _ c.if-n-ge10.true) at c.requires))

pub put_byte-requires : goal.put_byte-requires
put_byte-requires t c =
    elim c.if-n-ge10.branch [
      | then-n-ge10 w ↦ rw w.self-is (first_fits (onward (begun _ (_ ∷ []) _ (rw (decimal-more _ w.if-n-ge10.true) at c.requires)) w.put_number.ensures.bytes))
      | else-n-ge10 w ↦ rw w.self-is (rw (decimal_last _ w.if-n-ge10.false) at c.requires)
    ]

pub returns-clause-bytes : goal.returns-clause-bytes
returns-clause-bytes t c =
    elim c.if-n-ge10.branch [
      | then-n-ge10 w ↦ rw (decimal-more _ w.if-n-ge10.true)
          (ended (onward (onward (begun _ (_ ∷ []) _ (rw (decimal-more _ w.if-n-ge10.true) at c.requires)) (ap page_of w.self-is ∙ w.put_number.ensures.bytes))
          c.put_byte.ensures.bytes))
      | else-n-ge10 w ↦ rw (decimal_last _ w.if-n-ge10.false) (rw w.self-is at c.put_byte.ensures.bytes)
    ]
