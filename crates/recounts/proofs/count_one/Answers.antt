use mathlib.Core.Path.{refl, sym, ◌∙◌}
use native.Mathlib.Omega.{arith}
use Rattle.machine.specs.Uncovered.{marks}
use Rattle.machine.specs.Moving.{view}
use Rattle.machine.proofs.Scanned.{is-count, is_xor, count_fits}
use Rattle.machine.proofs.Steps.{count-0, count_1, count-2}
use Rattle.recounts.proofs.count_one.Goals as goal

pub overflow_cast-trues : goal.overflow_cast-trues
overflow_cast-trues c =
    let f = view c.args.values.now c.args.starts.now c.args.literals.now in
    omega (arith, count_fits f c.args.c c.part-clause.ensures c.true_count-k.ensures c.requires.short)

pub returns-then-k-eq0 : goal.returns-then-k-eq0
returns-then-k-eq0 c = count-0 _ _ _ (is-count _ _ c.part-clause.ensures c.true_count-k.ensures) c.if-k-eq0.true refl refl c.enter.ensures

pub raise-requires : goal.raise-requires
raise-requires c =
    let f = view c.args.values.now c.args.starts.now c.args.literals.now in
    let p = c.part-clause.ensures in
    rw (c.from.ensures, is_xor f c.args.c p c.xor_true-x.ensures) (c.requires.one (sym (is-count f c.args.c p c.true_count-k.ensures) ∙ c.if-k-eq1.true))

pub returns-then-k-eq1 : goal.returns-then-k-eq1
unfolding marks
returns-then-k-eq1 c =
    let p = c.part-clause.ensures in
    count_1 _ _ _ (is-count _ _ p c.true_count-k.ensures) c.if-k-eq1.true (is_xor _ _ p c.xor_true-x.ensures) refl (rw c.from.ensures at c.raise.ensures) refl

pub returns-else-k-eq1 : goal.returns-else-k-eq1
unfolding marks
returns-else-k-eq1 c =
    let p = c.part-clause.ensures in
    count-2 _ _ _ (is-count _ _ p c.true_count-k.ensures) c.if-k-eq0.false c.if-k-eq1.false (is_xor _ _ p c.xor_true-x.ensures) refl refl refl
