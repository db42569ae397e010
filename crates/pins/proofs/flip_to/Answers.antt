-- `pins::flip_to` meets its contract: a term that has the value stays, any other is flipped. Assumes nothing.
-- the tables as they were lent: written out, since each fact about them would find them anew
use native.Mathlib.Omega.{arith}
use Rattle.written.specs.Limits.{narrow}
use Rattle.written.specs.Tables.{Tables, lent}
use Rattle.pins.proofs.Laws.{term-low, stays, turns}
use Rattle.pins.proofs.flip_to.Lts as lts
use Rattle.pins.proofs.flip_to.Goals as goal

abbrev tables : {calls : _} {asks : _} {tells : _} {κs : _} → lts.Args calls asks tells κs → Tables
tables a =
    lent a.names.now a.values.now a.starts.now a.literals.now a.occurrence_starts.now a.occurrences.now
    a.trues.now a.breaks.now a.uncovered.now a.places.now

pub returns-then-value-asked : goal.returns-then-value-asked
returns-then-value-asked c =
    stays narrow c.args.term c.args.n (tables c.args) c.requires c.args.value c.value.ensures c.asked.ensures c.if-value-asked.true

pub overflow_cast-term : goal.overflow_cast-term
overflow_cast-term c = omega (arith, term-low narrow c.args.term c.args.n (tables c.args) c.requires)

pub returns-else-value-asked : goal.returns-else-value-asked
returns-else-value-asked c =
    turns narrow c.args.term c.args.n (tables c.args) c.requires c.args.value c.value.ensures c.asked.ensures
    c.if-value-asked.false c.flip_agreeing.ensures
