-- `running::begin` meets its contract: an input that is too long and a faulty sheet are refused; else the marks are cleared and the text is read.
-- Assumes nothing.
use native.Mathlib.Omega.{arith}
use Rattle.written.specs.Limits.{narrow}
use Rattle.running.proofs.Courses.{long-fits, long-ends, sheet-fits, sheet-ends, text-within, sheet-reads, text-ends}
use Rattle.running.proofs.begin.Goals as goal

pub refusal-requires : goal.refusal-requires
refusal-requires c = long-fits c.args.form narrow _ _ _ _ c.requires _ c.set_out.ensures c.in-Long.is (omega arith)

pub refusal-requires-in-Refused : goal.refusal-requires-in-Refused
refusal-requires-in-Refused c = sheet-fits c.args.form narrow _ _ _ _ c.requires _ c.set_out.ensures c.in-Refused.is (omega arith)

pub slice_bounds-read_on-count : goal.slice_bounds-read_on-count
slice_bounds-read_on-count c = text-within c.args.form narrow _ _ _ _ c.requires _ c.set_out.ensures c.in-Begins.is

pub slice_bounds-read_on-start : goal.slice_bounds-read_on-start
slice_bounds-read_on-start c = text-within c.args.form narrow _ _ _ _ c.requires _ c.set_out.ensures c.in-Begins.is

pub read_on-requires : goal.read_on-requires
read_on-requires c = sheet-reads c.args.form narrow _ _ _ _ c.requires _ c.set_out.ensures c.in-Begins.is c.clear-in-Begins.ensures

pub returns-in-Long : goal.returns-in-Long
returns-in-Long c =
    long-ends c.args.form narrow _ _ _ _ c.requires _ c.set_out.ensures c.in-Long.is
    c.clear_draft.ensures c.clear_others.ensures c.clear.ensures c.refusal.ensures

pub returns-in-Refused : goal.returns-in-Refused
returns-in-Refused c = sheet-ends c.args.form narrow _ _ _ _ c.requires _ c.set_out.ensures c.in-Refused.is c.refusal-in-Refused.ensures

pub returns-in-Begins : goal.returns-in-Begins
returns-in-Begins c =
    text-ends c.args.form narrow _ _ _ _ c.requires _ c.set_out.ensures c.in-Begins.is
    c.clear-in-Begins.ensures c.read_on.ensures
