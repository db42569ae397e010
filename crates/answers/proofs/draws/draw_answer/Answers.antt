-- `answers::draws::draw_answer` meets its contract: it takes the struct apart. Assumes nothing.
use mathlib.Core.Path.{refl}
use Rattle.answers.specs.Answers.{draw_answer}
use Rattle.answers.proofs.draws.draw_answer.Goals as goal

pub returns : goal.returns
unfolding draw_answer
returns c = refl
