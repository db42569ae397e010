-- `draw::draw` meets its contract: what `stepped` gives is both the number and the next state. Assumes nothing.
use mathlib.Core.Path.{sym, ap, ◌∙◌}
use Prim.Native.Nat.{ℕ}
use Rattle.draw.specs.declared.Generator.{Generator}
use Rattle.draw.proofs.Laws.{draw-number, draw-next}
use Rattle.draw.proofs.draw.Goals as goal

abbrev moved : ℕ → Generator
moved y = record { state = y }

pub returns : goal.returns
returns c = (c.stepped-n.ensures ∙ sym (draw-number _), ap moved (c.stepped-n.ensures ∙ sym (draw-next _)))
