-- `reading::read` meets its contract: tables that are too short stay; else the marks are cleared, and the text is read. Assumes nothing.
-- the tables as they were lent: written out, since each fact about them would find them anew
use mathlib.Core.Path.{ap}
use mathlib.Core.Bool.{not}
use Rattle.written.specs.Limits.{narrow}
use Rattle.written.specs.Numbered.{read_as}
use Rattle.written.specs.Tables.{Tables, lent}
use Rattle.reading.proofs.Decided.{tables-full, was-marked}
use Rattle.reading.proofs.read.Lts as lts
use Rattle.reading.proofs.read.Goals as goal

abbrev tables : {calls : _} {asks : _} {tells : _} {κs : _} → lts.Args calls asks tells κs → Tables
tables a =
    lent a.names.now a.values.now a.starts.now a.literals.now a.occurrence_starts.now a.occurrences.now
    a.trues.now a.breaks.now a.uncovered.now a.places.now

pub read_full-requires : goal.read_full-requires
read_full-requires c =
    let a = c.args in
    tables-full narrow (read_as a.form narrow a.text.now) (tables a) a.marks.now c.all_full.ensures (ap not c.if-not-all_full.false)

pub returns : goal.returns
returns c =
    let a = c.args in
    was-marked narrow (read_as a.form narrow a.text.now) (tables a) a.marks.now c.all_full.ensures (ap not c.if-not-all_full.false) c.clear.ensures
    c.read_full.ensures
