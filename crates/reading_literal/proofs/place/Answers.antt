-- `reading_literal::place` meets its contract: each way out by how the literal stands to the line. Assumes nothing.
use Rattle.written.specs.Limits.{narrow}
use Rattle.reading_literal.proofs.Takes.{place-skips, place-drops, place-full, place-holds}
use Rattle.reading_literal.proofs.place.Goals as goal

pub returns-in-Same : goal.returns-in-Same
returns-in-Same c = place-skips narrow _ _ _ _ _ _ (c.in-Same.ensures)

pub returns-in-Opposite : goal.returns-in-Opposite
returns-in-Opposite c = place-drops narrow _ _ _ _ _ _ (c.in-Opposite.ensures)

pub returns-then-held-lt16384 : goal.returns-then-held-lt16384
returns-then-held-lt16384 c = place-holds narrow _ _ _ _ _ _ (c.in-Not.ensures) c.if-held-lt16384.true c.mark.ensures.0 c.mark.ensures.1

pub returns-else-held-lt16384 : goal.returns-else-held-lt16384
returns-else-held-lt16384 c = place-full narrow _ _ _ _ _ _ (c.in-Not.ensures) c.if-held-lt16384.false
