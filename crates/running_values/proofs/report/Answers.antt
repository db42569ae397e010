-- `running_values::report` meets its contract: each arm prints what is written for it. Assumes nothing.
use mathlib.Core.Path.{◌≡◌}
use native.Mathlib.Omega.{arith}
use Rattle.std.specs.Prelude.{Ok}
use Rattle.written.specs.declared.Walked.TheVariants.{Found, GaveUp}
use Rattle.running_values.specs.Valuing.{competed_in}
use Rattle.running_values.proofs.report.Goals as goal

pub found-requires : goal.found-requires
unfolding competed_in
found-requires c =
    let ended : c.args.answer ≡ Ok (Found c.in-Ok-Found.tour) = grind arith in
    rw ended at c.requires

pub gave_up-requires : goal.gave_up-requires
unfolding competed_in
gave_up-requires c =
    let ended : c.args.answer ≡ Ok (GaveUp c.in-Ok-GaveUp.tour) = grind arith in
    rw ended at c.requires

pub refusal-requires : goal.refusal-requires
unfolding competed_in
refusal-requires c = rw c.in-Err.is at c.requires

pub returns-in-Ok-Found : goal.returns-in-Ok-Found
unfolding competed_in
returns-in-Ok-Found c =
    let ended : c.args.answer ≡ Ok (Found c.in-Ok-Found.tour) = grind arith in
    rw ended c.found.ensures

pub returns-in-Ok-GaveUp : goal.returns-in-Ok-GaveUp
unfolding competed_in
returns-in-Ok-GaveUp c =
    let ended : c.args.answer ≡ Ok (GaveUp c.in-Ok-GaveUp.tour) = grind arith in
    rw ended c.gave_up.ensures

pub returns-in-Err : goal.returns-in-Err
unfolding competed_in
returns-in-Err c = rw c.in-Err.is c.refusal.ensures
