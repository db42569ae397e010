-- `numerals::number_at` meets its contract: the text's end, or the word that stands past the gaps, read by its digits. Assumes nothing.
use mathlib.Core.Path.{ap}
use mathlib.Core.Bool.{not}
use Rattle.numerals.proofs.Words.{met-end, bad-met, number-met}
use Rattle.numerals.proofs.number_at.Goals as goal

pub returns-then-text-at : goal.returns-then-text-at
returns-then-text-at c = met-end _ _ c.past_gaps-s.ensures c.if-text-at.true

pub returns-then-not-is_whole : goal.returns-then-not-is_whole
returns-then-not-is_whole c =
    bad-met _ _ c.past_gaps-s.ensures c.requires c.if-text-at.false c.past_minus-from.ensures _ c.digits_at-d.ensures c.is_whole.ensures
    (ap not c.if-not-is_whole.true) c.skip-end.ensures

pub returns : goal.returns
returns c =
    number-met _ _ c.past_gaps-s.ensures c.requires c.if-text-at.false c.past_minus-from.ensures _ c.digits_at-d.ensures c.is_whole.ensures
    (ap not c.if-not-is_whole.false)
