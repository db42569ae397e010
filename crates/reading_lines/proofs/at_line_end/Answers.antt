-- `reading_lines::at_line_end` meets its contract: each way out has the tests that lead there. Assumes nothing.
use Rattle.written.specs.Limits.{narrow}
use Rattle.reading_lines.proofs.Tokens.{nothing-held, no_room, line-closed}
use Rattle.reading_lines.proofs.at_line_end.Goals as goal

pub returns-then-held-p : goal.returns-then-held-p
returns-then-held-p c = nothing-held narrow _ _ _ c.if-held-p.true c.fault_at.ensures

pub returns-then-clauses-ge8192 : goal.returns-then-clauses-ge8192
returns-then-clauses-ge8192 c = no_room narrow _ _ _ c.if-held-p.false c.if-clauses-ge8192.true c.fault_at-then-clauses-ge8192.ensures

pub returns : goal.returns
returns c = line-closed narrow _ _ _ c.if-held-p.false c.if-clauses-ge8192.false
