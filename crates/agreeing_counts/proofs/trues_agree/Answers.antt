use mathlib.Core.Path.{sym, ◌∙◌}
use borrow.Author.Tests.{eq-eqb, ne_eqb}
use Rattle.machine.specs.Moving.{view}
use Rattle.machine.specs.Tested.{true_tested}
use Rattle.laws.proofs.Tests.{tested-more, test_fails, tested-all}
use Rattle.machine.proofs.Scanned.{is-count}
use Rattle.machine.proofs.Tested.{trues-tested}
use Rattle.agreeing_counts.proofs.trues_agree.Goals as goal

pub returns-then-from-k : goal.returns-then-from-k
unfolding true_tested
returns-then-from-k c =
    let a = c.args in
    let f = view a.values.now a.starts.now a.literals.now in
    let k = is-count f _ c.part.ensures c.true_count-k.ensures in
    test_fails (true_tested f a.trues.now) _ _ c.loop-c-test.true (ne_eqb _ _ (λ q. c.if-from-k.true (c.from.ensures ∙ q ∙ sym k)))
    ∙ trues-tested _ _ _ _ _ _ c.requires

pub loop-c-preserved : goal.loop-c-preserved
unfolding true_tested
loop-c-preserved c =
    let a = c.args in
    let f = view a.values.now a.starts.now a.literals.now in
    let k = is-count f _ c.part.ensures c.true_count-k.ensures in
    tested-more (true_tested f a.trues.now) _ c.loop-c.invariant (eq-eqb _ _ (sym c.from.ensures ∙ c.if-from-k.false ∙ k))

pub returns : goal.returns
returns c =
    let a = c.args in
    let f = view a.values.now a.starts.now a.literals.now in
    tested-all (true_tested f a.trues.now) _ _ c.loop-c.invariant c.loop-c.auto.c-end c.loop-c-test.false ∙ trues-tested _ _ _ _ _ _ c.requires
