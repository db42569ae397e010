-- `answers::read::read_answer` meets its contract: the values of each case. Assumes nothing.
use Rattle.answers.specs.Answers.{read_answer}
use Rattle.answers.proofs.read.read_answer.Goals as goal

pub returns-in-Ok : goal.returns-in-Ok
unfolding read_answer
returns-in-Ok c = rw c.in-Ok.is

pub returns-in-Err : goal.returns-in-Err
unfolding read_answer
returns-in-Err c = rw (c.in-Err.is, c.number_of.ensures)
