-- `running_forms::report` meets its contract: each arm prints what is written for it. Assumes nothing.
use Rattle.running_forms.specs.Reporting.{report_by}
use Rattle.running_forms.proofs.report.Goals as goal

pub report-requires : goal.report-requires
unfolding report_by
report-requires c = let pre = rw c.in-Own.is at c.requires in record { named = pre.named; fits = pre.fits }

pub report-requires-in-Numbered : goal.report-requires-in-Numbered
unfolding report_by
report-requires-in-Numbered c = (rw c.in-Numbered.is at c.requires).fits

pub returns-in-Own : goal.returns-in-Own
unfolding report_by
returns-in-Own c = rw c.in-Own.is c.report.ensures

pub returns-in-Numbered : goal.returns-in-Numbered
unfolding report_by
returns-in-Numbered c = rw c.in-Numbered.is c.report-in-Numbered.ensures
