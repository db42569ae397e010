-- `pins::asked` meets its contract: the test as a number. Assumes nothing.
use mathlib.Core.Path.{◌∙◌}
use Rattle.pins.proofs.Laws.{as-asked}
use Rattle.pins.proofs.asked.Goals as goal

pub returns : goal.returns
returns c = c.from.ensures ∙ as-asked _
