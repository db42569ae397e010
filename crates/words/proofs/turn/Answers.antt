-- `words::turn` meets its contract: the one that is shifted stays in the word. Assumes nothing.
use Rattle.words.proofs.Laws.{turn-past}
use Rattle.words.proofs.Shifts.{one-turns}
use Rattle.words.proofs.turn.Goals as goal

pub returns-then-k-words : goal.returns-then-k-words
returns-then-k-words c = one-turns _ _

pub returns-else-k-words : goal.returns-else-k-words
returns-else-k-words c = turn-past _ _ c.if-k-words.false
