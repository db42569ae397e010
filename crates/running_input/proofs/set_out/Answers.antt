-- `running_input::set_out` meets its contract: too long, or as its sheet says. Assumes nothing.
use Rattle.written.specs.Limits.{narrow}
use Rattle.running_input.specs.Outsets.{by_sheet}
use Rattle.running_input.proofs.Courses.{too_long, by-sheet}
use Rattle.running_input.proofs.set_out.Goals as goal

pub returns-then-input-gt65536 : goal.returns-then-input-gt65536
returns-then-input-gt65536 c = too_long narrow _ c.if-input-gt65536.true

pub returns-in-Err : goal.returns-in-Err
unfolding by_sheet
returns-in-Err c = by-sheet narrow _ c.if-input-gt65536.false _ c.sheet.ensures c.in-Err.is

pub returns-in-Ok : goal.returns-in-Ok
unfolding by_sheet
returns-in-Ok c = by-sheet narrow _ c.if-input-gt65536.false _ c.sheet.ensures c.in-Ok.is
