-- `pins::lift` meets its contract: refused, nothing changes; else one mark is cleared. Assumes nothing.
use mathlib.Core.Path.{◌≡◌}
use native.Mathlib.Omega.{arith}
use Rattle.std.specs.Prelude.{Ok, Err}
use Rattle.written.specs.Limits.{narrow}
use Rattle.pins.proofs.Laws.{lift-refused, mark-there, was-lifted}
use Rattle.pins.proofs.lift.Goals as goal

pub returns-in_err-map_err : goal.returns-in_err-map_err
returns-in_err-map_err c =
    let a = c.args in
    let r = c.in_err-map_err.field-0.0 in
    let failed : c.verdict.result ≡ Err r.reason = grind arith in
    let told : c.from_residual.result ≡ Err (record { reason = r.reason; counts = a.n }) = grind arith in
    rw told (lift-refused narrow a.term a.n _ a.marks.now c.verdict.ensures failed)

pub bounds-marks-term : goal.bounds-marks-term
bounds-marks-term c =
    let a = c.args in
    let passed : c.verdict.result ≡ Ok tt = grind arith in
    mark-there narrow a.term a.n _ a.marks.now c.verdict.ensures passed

pub returns : goal.returns
returns c =
    let a = c.args in
    let passed : c.verdict.result ≡ Ok tt = grind arith in
    was-lifted narrow a.term a.n _ a.marks.now c.verdict.ensures passed
