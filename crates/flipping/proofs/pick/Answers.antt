-- `flipping::pick` meets its contract: each way out has the test that leads there. Assumes nothing.
use borrow.Author.Tests.{lt-ltb, le-ltb}
use Rattle.machine.specs.Tallies.{pick_of}
use Rattle.flipping.proofs.pick.Goals as goal

pub returns-then-k-m : goal.returns-then-k-m
unfolding pick_of
returns-then-k-m c = rw (lt-ltb _ _ c.if-k-m.true)

pub returns-else-k-m : goal.returns-else-k-m
unfolding pick_of
returns-else-k-m c = rw (le-ltb _ _ c.if-k-m.false)
