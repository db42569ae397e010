-- `ngiyarumba::numbered::ngi_read_numbered` meets its contract: it is `reading::read` of numbered text, its answer taken apart. Assumes nothing.
use Rattle.written.specs.Numbered.{read_numbered}
use Rattle.written.specs.Outcomes.{numbered_of}
use Rattle.laws.proofs.Leaves.{told_as}
use Rattle.answers.specs.Answers.{read_answer}
use Rattle.ngiyarumba.proofs.numbered.ngi_read_numbered.Goals as goal

pub returns : goal.returns
unfolding numbered_of read_numbered
returns c = told_as read_answer c.read_answer.ensures c.read-answer.ensures
