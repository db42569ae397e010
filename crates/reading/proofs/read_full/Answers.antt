-- `reading::read_full` meets its contract: the tables are cleared, and the text is read into them. Assumes nothing.
-- the tables as they were lent: written out, since each fact about them would find them anew
use native.Mathlib.Omega.{arith}
use Rattle.written.specs.Limits.{narrow}
use Rattle.written.specs.Numbered.{read_as}
use Rattle.written.specs.Tables.{Tables, lent}
use Rattle.laws.proofs.NumberedReadings.{form-sound}
use Rattle.reading.proofs.Decided.{is-bare, was_read}
use Rattle.reading.proofs.read_full.Lts as lts
use Rattle.reading.proofs.read_full.Goals as goal

abbrev tables : {calls : _} {asks : _} {tells : _} {κs : _} → lts.Args calls asks tells κs → Tables
tables a =
    lent a.names.now a.values.now a.starts.now a.literals.now a.occurrence_starts.now a.occurrences.now
    a.trues.now a.breaks.now a.uncovered.now a.places.now

pub read_cleared-requires : goal.read_cleared-requires
read_cleared-requires c = is-bare narrow (tables c.args) c.requires c.clear_draft.ensures c.clear_others.ensures

pub returns : goal.returns
returns c =
    was_read narrow (tables c.args) c.requires c.clear_draft.ensures c.clear_others.ensures (read_as c.args.form narrow c.args.text.now)
    (form-sound narrow (omega arith) c.args.form c.args.text.now) c.read_cleared.ensures
