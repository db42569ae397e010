-- `reading_lines::at_token` meets its contract: each token by the law of its turn. Assumes nothing.
use mathlib.Core.Path.{refl}
use Rattle.written.specs.Limits.{narrow}
use Rattle.written.specs.Reading.{at_token}
use Rattle.names.specs.Finding.{homes}
use Rattle.reading_literal.specs.Taking.{by_slots}
use Rattle.reading_lines.proofs.Tokens.{literal-by, true-by, line-by, end_by, fault-by}
use Rattle.reading_lines.proofs.at_token.Goals as goal

pub returns-in-Literal : goal.returns-in-Literal
returns-in-Literal c = rw c.in-Literal.is (literal-by (by_slots homes narrow) narrow _ _ _ _ _ _ _ _ c.take-t.ensures c.after_literal.ensures)

pub returns-in-True : goal.returns-in-True
returns-in-True c = rw (c.in-True.is, c.given_back.ensures) (true-by (by_slots homes narrow) narrow _ _ _)

pub returns-in-Line : goal.returns-in-Line
returns-in-Line c = rw c.in-Line.is (line-by (by_slots homes narrow) narrow _ _ _ _ c.at_line_end.ensures)

pub returns-in-End : goal.returns-in-End
returns-in-End c = rw c.in-End.is (end_by (by_slots homes narrow) narrow _ _ _ c.at_text_end.ensures)

pub returns-in-Cut : goal.returns-in-Cut
unfolding at_token
returns-in-Cut c = rw (c.in-Cut.is, c.fault_at.ensures) (fault-by (by_slots homes narrow) narrow _ _ _ _ (λ d. refl))

pub returns-in-Bad : goal.returns-in-Bad
unfolding at_token
returns-in-Bad c = rw (c.in-Bad.is, c.fault_at-in-Bad.ensures) (fault-by (by_slots homes narrow) narrow _ _ _ _ (λ d. refl))

pub returns-in-Long : goal.returns-in-Long
unfolding at_token
returns-in-Long c = rw (c.in-Long.is, c.fault_at-in-Long.ensures) (fault-by (by_slots homes narrow) narrow _ _ _ _ (λ d. refl))
