use mathlib.Core.Path.{refl}
use borrow.Author.Tests.{lt-ltb, le-ltb}
use Rattle.agreeing_file.specs.Matching.{stands_at}
use Rattle.agreeing_file.proofs.stands_at.Goals as goal

pub returns-then-k-run : goal.returns-then-k-run
unfolding stands_at
returns-then-k-run c = rw (lt-ltb _ _ c.if-k-run.true) refl

pub returns-else-k-run : goal.returns-else-k-run
unfolding stands_at
returns-else-k-run c = rw (le-ltb _ _ c.if-k-run.false) refl
