use borrow.Author.Tests.{eq-eqb, ne_eqb, lt-ltb, le-ltb}
use Rattle.machine.specs.Tested.{place_tested}
use Rattle.agreeing_counts.proofs.place_agrees.Goals as goal

pub returns-then-trues-c-ne0 : goal.returns-then-trues-c-ne0
unfolding place_tested
returns-then-trues-c-ne0 c = rw (c.from-p.ensures, ne_eqb _ 0 c.if-trues-c-ne0.true)

pub returns-then-p-n : goal.returns-then-p-n
unfolding place_tested
returns-then-p-n c =
    let p = c.from-p.ensures in
    rw (c.from.ensures, p, eq-eqb _ 0 c.if-trues-c-ne0.false, lt-ltb _ _ (rw p at c.if-p-n.true))

pub returns-else-p-n : goal.returns-else-p-n
unfolding place_tested
returns-else-p-n c =
    let p = c.from-p.ensures in
    rw (p, eq-eqb _ 0 c.if-trues-c-ne0.false, le-ltb _ _ (rw p at c.if-p-n.false))
