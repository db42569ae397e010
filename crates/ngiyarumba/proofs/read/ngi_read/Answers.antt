-- `ngiyarumba::read::ngi_read` meets its contract: it is `reading::read` of our own text, its answer taken apart. Assumes nothing.
use Rattle.written.specs.Reading.{read_text}
use Rattle.written.specs.Outcomes.{reading_of}
use Rattle.laws.proofs.Leaves.{told_as}
use Rattle.answers.specs.Answers.{read_answer}
use Rattle.ngiyarumba.proofs.read.ngi_read.Goals as goal

pub returns : goal.returns
unfolding reading_of read_text
returns c = told_as read_answer c.read_answer.ensures c.read-answer.ensures
