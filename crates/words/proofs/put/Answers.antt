-- `words::put` meets its contract. Assumes nothing.
use mathlib.Core.Path.{ap}
use lib.ListN.{set}
use Rattle.words.specs.Words.{put_at}
use Rattle.words.proofs.Laws.{put-none}
use Rattle.words.proofs.put.Goals as goal

pub returns-then-k-words : goal.returns-then-k-words
unfolding put_at
returns-then-k-words c = ap (set c.args.words.now c.args.k) c.kept.ensures

pub returns-else-k-words : goal.returns-else-k-words
returns-else-k-words c = put-none _ _ _ _ c.if-k-words.false
