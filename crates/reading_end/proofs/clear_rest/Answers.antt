-- `reading_end::clear_rest` meets its contract: what stands before the place stays, and zeros follow. Assumes nothing.
use Rattle.reading_end.proofs.Cleared.{rest-filled}
use Rattle.reading_end.proofs.clear_rest.Goals as goal

pub returns : goal.returns
returns c = rest-filled _ _ _ c.requires.0 c.requires.1 (c.fill.ensures.after (λ y e. e))
