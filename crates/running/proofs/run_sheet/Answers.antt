-- `running::run_sheet` meets its contract: with a table or the buffer too short nothing is done; else the run begins. Assumes nothing.
-- the tables as they were lent: written out, since each fact about them would find them anew
use mathlib.Core.Path.{ap}
use mathlib.Core.Bool.{not}
use Rattle.written.specs.Limits.{narrow}
use Rattle.written.specs.Tables.{Tables, lent}
use Rattle.written.specs.Program.{report_size}
use Rattle.running.proofs.Courses.{tables-short, buffer-short, can-run, run_ends}
use Rattle.running.proofs.run_sheet.Lts as lts
use Rattle.running.proofs.run_sheet.Goals as goal

abbrev tables : {calls : _} {asks : _} {tells : _} {κs : _} → lts.Args calls asks tells κs → Tables
tables a =
    lent a.names.now a.values.now a.starts.now a.literals.now a.occurrence_starts.now a.occurrences.now
    a.trues.now a.breaks.now a.uncovered.now a.places.now

pub returns-then-not-all_full : goal.returns-then-not-all_full
returns-then-not-all_full c =
    let a = c.args in
    tables-short a.form narrow (tables a) a.marks.now a.out.now c.all_full.ensures c.refused.ensures (ap not c.if-not-all_full.true) a.input.now

pub returns-then-out-lt20544 : goal.returns-then-out-lt20544
unfolding report_size
returns-then-out-lt20544 c =
    let a = c.args in
    buffer-short a.form narrow (tables a) a.marks.now a.out.now c.refused-then-out-lt20544.ensures c.if-out-lt20544.true a.input.now

pub begin-n-requires : goal.begin-n-requires
unfolding report_size
begin-n-requires c =
    let a = c.args in
    can-run a.form narrow (tables a) a.marks.now a.out.now c.all_full.ensures (ap not c.if-not-all_full.false) c.if-out-lt20544.false

pub returns : goal.returns
unfolding report_size
returns c =
    let a = c.args in
    run_ends a.form narrow (tables a) a.marks.now a.out.now c.all_full.ensures (ap not c.if-not-all_full.false) c.if-out-lt20544.false a.input.now c.begin-n.ensures
