-- `running_text::walk_on` meets its contract: the walks are made, and their report is put into the buffer. Assumes nothing.
use native.Mathlib.Omega.{arith}
use Rattle.written.specs.Limits.{narrow}
use Rattle.running_text.proofs.Walking.{walk_reports, walk_ends}
use Rattle.running_text.proofs.walk_on.Goals as goal

pub report-requires : goal.report-requires
report-requires c = walk_reports _ narrow _ _ _ _ _ c.requires c.walk_tested-answer.ensures (omega arith)

pub returns : goal.returns
returns c = walk_ends _ narrow _ _ _ _ _ c.requires c.walk_tested-answer.ensures c.report.ensures
