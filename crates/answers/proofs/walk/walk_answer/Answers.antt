-- `answers::walk::walk_answer` meets its contract: the values of each case. Assumes nothing.
use mathlib.Core.Path.{◌≡◌}
use native.Mathlib.Omega.{arith}
use Rattle.std.specs.Prelude.{Ok}
use Rattle.written.specs.declared.Walked.TheVariants.{Found, GaveUp}
use Rattle.answers.specs.Answers.{walk_answer}
use Rattle.answers.proofs.walk.walk_answer.Goals as goal

pub returns-in-Ok-Found : goal.returns-in-Ok-Found
unfolding walk_answer
returns-in-Ok-Found c =
    let ended : c.args.answer ≡ Ok (Found c.in-Ok-Found.tour) = grind arith in
    rw ended c.tour_answer.ensures

pub returns-in-Ok-GaveUp : goal.returns-in-Ok-GaveUp
unfolding walk_answer
returns-in-Ok-GaveUp c =
    let ended : c.args.answer ≡ Ok (GaveUp c.in-Ok-GaveUp.tour) = grind arith in
    rw ended c.tour_answer-in-Ok-GaveUp.ensures

pub returns-in-Err : goal.returns-in-Err
unfolding walk_answer
returns-in-Err c = rw (c.in-Err.is, c.number_of.ensures)
