-- `running_values::put_tour` meets its contract: it is put together from its calls. Assumes nothing.
use mathlib.Core.List.{◌∷◌, []}
use Rattle.pages.proofs.Pieces.{begun, first_fits, onward, ended}
use Rattle.running_values.proofs.put_tour.Goals as goal

pub put_line-requires-2 : goal.put_line-requires-2
put_line-requires-2 c = first_fits (onward (begun _ (_ ∷ _ ∷ []) _ c.requires) c.put_line.ensures.bytes)

pub put_all-requires : goal.put_all-requires
put_all-requires c = first_fits (onward (onward (begun _ (_ ∷ _ ∷ []) _ c.requires) c.put_line.ensures.bytes) c.put_line-2.ensures.bytes)

pub returns-clause-bytes : goal.returns-clause-bytes
returns-clause-bytes c =
    let left = begun _ (_ ∷ _ ∷ []) _ c.requires in
    ended (onward (onward (onward left c.put_line.ensures.bytes) c.put_line-2.ensures.bytes) c.put_all.ensures.bytes)
