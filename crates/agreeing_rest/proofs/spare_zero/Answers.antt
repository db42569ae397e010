-- `agreeing_rest::spare_zero` meets its contract: a word shifted down is a quotient. Assumes nothing.
use mathlib.Core.Path.{refl, ◌∙◌}
use borrow.Author.Tests.{le-leb}
use Rattle.machine.specs.Judging.{spare_right}
use Rattle.machine.proofs.Rest.{spare_past}
use Rattle.agreeing_rest.proofs.spare_zero.Goals as goal

pub returns-then-k-words : goal.returns-then-k-words
returns-then-k-words c = le-leb _ _ c.if-k-words.true ∙ spare_past _ _ c.if-k-words.true

pub returns-else-k-words : goal.returns-else-k-words
unfolding spare_right
returns-else-k-words c = refl
