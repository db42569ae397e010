-- `words::kept` meets its contract: a word before the last is kept whole, the last in part, and nothing past it. Assumes nothing.
use native.Mathlib.Omega.{arith}
use Rattle.words.proofs.Shifts.{whole-kept, part-kept, none_kept}
use Rattle.words.proofs.kept.Goals as goal

pub returns-then-k-n : goal.returns-then-k-n
returns-then-k-n c = whole-kept _ _ _ c.if-k-n.true c.ranges.w.fits

pub returns-then-k-n-2 : goal.returns-then-k-n-2
returns-then-k-n-2 c = part-kept _ _ _ c.if-k-n-2.true

pub returns-else-k-n-2 : goal.returns-else-k-n-2
returns-else-k-n-2 c = none_kept _ _ _ (omega arith)
