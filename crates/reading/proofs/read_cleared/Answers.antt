-- `reading::read_cleared` meets its contract: refused, the tables are 0 again; whole, they are those written for the file. Assumes nothing.
use mathlib.Core.Path.{◌≡◌}
use native.Mathlib.Omega.{arith}
use Rattle.std.specs.Prelude.{Ok, Err}
use Rattle.written.specs.Limits.{narrow}
use Rattle.written.specs.Reasons.{fault}
use Rattle.written.specs.Numbered.{read_by}
use Rattle.laws.proofs.NumberedReadings.{form-sound}
use Rattle.reading.proofs.Refused.{passed-if, was-failed, can_lay, was-refused}
use Rattle.reading.proofs.Drafted.{finish-can, was-whole}
use Rattle.reading.proofs.read_cleared.Goals as goal

pub returns-in_err-map_err : goal.returns-in_err-map_err
returns-in_err-map_err c =
    let text = c.args.text.now in
    let form = c.args.form in
    let r = c.in_err-map_err.field-0.0 in
    let failed : c.verdict.result ≡ Err r.reason = grind arith in
    let told : c.from_residual.result ≡ Err (fault r.reason) = grind arith in
    rw told (was-failed narrow text (read_by form narrow text) _ c.requires c.verdict.ensures failed)

pub draft-requires : goal.draft-requires
draft-requires c =
    let text = c.args.text.now in
    let form = c.args.form in
    let passed : c.verdict.result ≡ Ok tt = passed-if _ c.map_err.ensures.variant c.in_ok-map_err.was in
    can_lay narrow text (read_by form narrow text) _ c.requires c.verdict.ensures passed

pub returns-in-Err : goal.returns-in-Err
returns-in-Err c =
    let text = c.args.text.now in
    let form = c.args.form in
    let passed : c.verdict.result ≡ Ok tt = passed-if _ c.map_err.ensures.variant c.in_ok-map_err.was in
    was-refused narrow text (read_by form narrow text) _ c.requires c.verdict.ensures passed _ c.draft.ensures c.in-Err.is
    c.clear_draft.ensures

pub finish-n-requires : goal.finish-n-requires
finish-n-requires c =
    let text = c.args.text.now in
    let form = c.args.form in
    let passed : c.verdict.result ≡ Ok tt = passed-if _ c.map_err.ensures.variant c.in_ok-map_err.was in
    finish-can narrow text (read_by form narrow text) (form-sound narrow (omega arith) form text) _ c.requires c.verdict.ensures passed _
    c.draft.ensures c.in-Ok.is 65536 (omega arith) (omega arith) (omega arith) (omega arith)

pub returns-in-Ok : goal.returns-in-Ok
returns-in-Ok c =
    let text = c.args.text.now in
    let form = c.args.form in
    let passed : c.verdict.result ≡ Ok tt = passed-if _ c.map_err.ensures.variant c.in_ok-map_err.was in
    was-whole narrow text (read_by form narrow text) (form-sound narrow (omega arith) form text) _ c.requires c.verdict.ensures passed _
    c.draft.ensures c.in-Ok.is 65536 (omega arith) (omega arith) (omega arith) (omega arith) c.finish-n.ensures
