-- `pins::pin` meets its contract: refused, nothing changes; else the term is marked and stands at the value. Assumes nothing.
-- the tables as they were lent: written out, since each fact about them would find them anew
use mathlib.Core.Path.{◌≡◌}
use native.Mathlib.Omega.{arith}
use Rattle.std.specs.Prelude.{Ok, Err}
use Rattle.written.specs.Limits.{narrow}
use Rattle.written.specs.Tables.{Tables, lent}
use Rattle.pins.proofs.Laws.{pin-refused, mark-there, may_flip, was-pinned}
use Rattle.pins.proofs.pin.Lts as lts
use Rattle.pins.proofs.pin.Goals as goal

abbrev tables : {calls : _} {asks : _} {tells : _} {κs : _} {λs : _} → lts.Args calls asks tells κs λs → Tables
tables a =
    lent a.names.now a.values.now a.starts.now a.literals.now a.occurrence_starts.now a.occurrences.now
    a.trues.now a.breaks.now a.uncovered.now a.places.now

pub returns-in_err-map_err : goal.returns-in_err-map_err
returns-in_err-map_err c =
    let a = c.args in
    let r = c.in_err-map_err.field-0.0 in
    let failed : c.verdict.result ≡ Err r.reason = grind arith in
    let told : c.from_residual.result ≡ Err (record { reason = r.reason; counts = a.n }) = grind arith in
    rw told (pin-refused narrow a.term a.n (tables a) a.marks.now c.verdict.ensures failed a.value)

pub mark_term-requires : goal.mark_term-requires
mark_term-requires c =
    let a = c.args in
    let passed : c.verdict.result ≡ Ok tt = grind arith in
    mark-there narrow a.term a.n (tables a) a.marks.now c.verdict.ensures passed

pub flip_to-requires : goal.flip_to-requires
flip_to-requires c =
    let a = c.args in
    let passed : c.verdict.result ≡ Ok tt = grind arith in
    may_flip narrow a.term a.n (tables a) a.marks.now c.verdict.ensures passed

pub returns : goal.returns
returns c =
    let a = c.args in
    let passed : c.verdict.result ≡ Ok tt = grind arith in
    was-pinned narrow a.term a.n (tables a) a.marks.now c.verdict.ensures passed a.value c.mark_term.ensures c.flip_to.ensures
