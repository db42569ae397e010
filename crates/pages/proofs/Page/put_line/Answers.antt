-- `pages::Page::put_line` meets its contract: it is put together from its calls. Assumes nothing.
use mathlib.Core.List.{◌∷◌, []}
use Rattle.pages.proofs.Pieces.{begun, first_fits, onward, ended}
use Rattle.pages.proofs.Page.put_line.Goals as goal

pub put_number-requires : goal.put_number-requires
put_number-requires c = first_fits (onward (begun _ (_ ∷ _ ∷ []) _ c.requires) c.put_all.ensures.bytes)

pub put_byte-requires : goal.put_byte-requires
put_byte-requires c = first_fits (onward (onward (begun _ (_ ∷ _ ∷ []) _ c.requires) c.put_all.ensures.bytes) c.put_number.ensures.bytes)

pub returns-clause-bytes : goal.returns-clause-bytes
returns-clause-bytes c =
    let left = begun _ (_ ∷ _ ∷ []) _ c.requires in
    ended (onward (onward (onward left c.put_all.ensures.bytes) c.put_number.ensures.bytes) c.put_byte.ensures.bytes)
