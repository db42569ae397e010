-- `running_values::put_signed` meets its contract: with the sign or without it. Assumes nothing.
use mathlib.Core.Path.{ap, ◌∙◌}
use mathlib.Core.List.{[]}
use Rattle.pages.specs.Pages.{page_of}
use Rattle.pages.proofs.Pieces.{begun, first_fits, onward, split, ended}
use Rattle.running_values.proofs.Lines.{signed_no, signed_yes}
use Rattle.running_values.proofs.put_signed.Goals as goal
use Rattle.running_values.proofs.put_signed.Goals.{then-value-eq0, else-value-eq0}

pub put_byte-requires : goal.put_byte-requires
put_byte-requires c = first_fits (split _ _ (signed_no _ _ c.if-value-eq0.true) (begun _ [] _ c.requires))

pub put_number-requires : goal.put_number-requires
put_number-requires c =
    elim c.if-value-eq0.branch [
      | then-value-eq0 w ↦ rw w.page-is (first_fits (onward (split _ _ (signed_no _ _ w.if-value-eq0.true) (begun _ [] _ c.requires)) w.put_byte.ensures.bytes))
      | else-value-eq0 w ↦ rw w.page-is (rw (signed_yes _ _ w.if-value-eq0.false) at c.requires)
    ]

pub returns-clause-bytes : goal.returns-clause-bytes
returns-clause-bytes c = elim c.if-value-eq0.branch [
  | then-value-eq0 w ↦ ended
      (onward (onward (split _ _ (signed_no _ _ w.if-value-eq0.true) (begun _ [] _ c.requires)) (ap page_of w.page-is ∙ w.put_byte.ensures.bytes)) c.put_number.ensures.bytes)
  | else-value-eq0 w ↦ rw (signed_yes _ _ w.if-value-eq0.false) (rw w.page-is at c.put_number.ensures.bytes)
]
