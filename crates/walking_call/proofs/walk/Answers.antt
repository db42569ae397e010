-- `walking_call::walk` meets its contract: refused, nothing changes; else the walks are made. Assumes nothing.
-- the tables as they were lent: written out, since each fact about them would find them anew
use mathlib.Core.Path.{◌≡◌}
use native.Mathlib.Omega.{arith}
use Rattle.std.specs.Prelude.{Ok, Err}
use Rattle.written.specs.Limits.{narrow}
use Rattle.written.specs.Tables.{Tables, lent}
use Rattle.walking_call.proofs.Decided.{was-refused, was-allowed, was-made}
use Rattle.walking_call.proofs.walk.Lts as lts
use Rattle.walking_call.proofs.walk.Goals as goal

abbrev tables : {calls : _} {asks : _} {tells : _} {κs : _} {λs : _} → lts.Args calls asks tells κs λs → Tables
tables a =
    lent a.names.now a.values.now a.starts.now a.literals.now a.occurrence_starts.now a.occurrences.now
    a.trues.now a.breaks.now a.uncovered.now a.places.now

pub returns-in_err-map_err : goal.returns-in_err-map_err
returns-in_err-map_err c =
    let a = c.args in
    let r = c.in_err-map_err.field-0.0 in
    let failed : c.verdict.result ≡ Err r.reason = grind arith in
    let told : c.from_residual.result ≡ Err (record { reason = r.reason; counts = a.n }) = grind arith in
    rw told (was-refused narrow a.order a.n (tables a) a.marks.now c.verdict.ensures failed)

pub walk_tested-requires : goal.walk_tested-requires
walk_tested-requires c =
    let a = c.args in
    let passed : c.verdict.result ≡ Ok tt = grind arith in
    was-allowed narrow a.order a.n (tables a) a.marks.now c.verdict.ensures passed

pub returns : goal.returns
returns c =
    let a = c.args in
    let passed : c.verdict.result ≡ Ok tt = grind arith in
    was-made narrow a.order a.n (tables a) a.marks.now c.verdict.ensures passed c.walk_tested.ensures
