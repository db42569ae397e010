-- `walking_choice::beside` meets its contract: each way out has the test that leads there. Assumes nothing.
use Rattle.walking_choice.proofs.Among.{byte-one}
use Rattle.walking_choice.proofs.LeastBreaks.{beside-lower, beside-other}
use Rattle.walking_choice.proofs.beside.Goals as goal

pub returns-then-b-s : goal.returns-then-b-s
returns-then-b-s c = search beside-lower

pub returns-else-b-s : goal.returns-else-b-s
returns-else-b-s c = beside-other _ _ _ _ _ _ c.if-b-s.false (byte-one _ c.from.ensures)
