-- `reading_lines::at_text_end` meets its contract: by whether a clause is kept. Assumes nothing.
use mathlib.Core.Path.{refl, ap}
use borrow.Author.Tests.{eq-eqb, ne_eqb}
use Rattle.std.proofs.Common.{Err}
use Rattle.reading_lines.specs.Turns.{after_text}
use Rattle.reading_lines.proofs.at_text_end.Goals as goal

pub returns-then-p-eq0 : goal.returns-then-p-eq0
unfolding after_text
returns-then-p-eq0 c = rw (eq-eqb _ _ c.if-p-eq0.true) (ap Err c.fault_at.ensures)

pub returns : goal.returns
unfolding after_text
returns c = rw (ne_eqb _ _ c.if-p-eq0.false) refl
