-- `running_report::report` meets its contract: each arm prints what is written for it. Assumes nothing.
use mathlib.Core.Path.{◌≡◌}
use native.Mathlib.Omega.{arith}
use Rattle.std.specs.Prelude.{Ok}
use Rattle.written.specs.declared.Walked.TheVariants.{Found, GaveUp}
use Rattle.running_report.specs.Reporting.{report_in}
use Rattle.running_report.proofs.report.Goals as goal

pub found-requires : goal.found-requires
unfolding report_in
found-requires c =
    let ended : c.args.answer ≡ Ok (Found c.in-Ok-Found.tour) = grind arith in
    let pre = rw ended at c.requires in
    record { named = pre.named; fits = pre.fits }

pub gave_up-requires : goal.gave_up-requires
unfolding report_in
gave_up-requires c =
    let ended : c.args.answer ≡ Ok (GaveUp c.in-Ok-GaveUp.tour) = grind arith in
    (rw ended at c.requires).fits

pub refusal-requires : goal.refusal-requires
unfolding report_in
refusal-requires c = (rw c.in-Err.is at c.requires).fits

pub returns-in-Ok-Found : goal.returns-in-Ok-Found
unfolding report_in
returns-in-Ok-Found c =
    let ended : c.args.answer ≡ Ok (Found c.in-Ok-Found.tour) = grind arith in
    rw ended c.found.ensures

pub returns-in-Ok-GaveUp : goal.returns-in-Ok-GaveUp
unfolding report_in
returns-in-Ok-GaveUp c =
    let ended : c.args.answer ≡ Ok (GaveUp c.in-Ok-GaveUp.tour) = grind arith in
    rw ended c.gave_up.ensures

pub returns-in-Err : goal.returns-in-Err
unfolding report_in
returns-in-Err c = rw c.in-Err.is c.refusal.ensures
