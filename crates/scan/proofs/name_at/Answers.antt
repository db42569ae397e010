-- `scan::name_at` meets its contract. Assumes nothing.
use borrow.Author.Tests.{lt-ltb, le-ltb, le-leb, lt-leb, eq-eqb, ne_eqb}
use native.Mathlib.Omega.{arith}
use mathlib.Core.Path.{sym, ◌∙◌}
use Rattle.scan.specs.Scan.{is_of, named, named_to}
use Rattle.scan.specs.declared.Kind.TheVariants.{Name}
use Rattle.scan.proofs.Laws.{past_ge}
use Rattle.scan.proofs.name_at.Goals as goal

pub overflow_sub-n : goal.overflow_sub-n
overflow_sub-n c =
    let a = c.args in
    omega (arith, past_ge (is_of Name) a.text.now a.s, c.name_run-run.ensures.0)

pub returns-then-n-gt8 : goal.returns-then-n-gt8
unfolding named named_to
returns-then-n-gt8 c = simp (sym c.name_run-run.ensures.0, lt-ltb _ _ c.if-n-gt8.true)

pub returns-then-text-e : goal.returns-then-text-e
unfolding named named_to
returns-then-text-e c = simp (sym c.name_run-run.ensures.0, le-ltb _ _ c.if-n-gt8.false, le-leb _ _ c.if-text-e.true)

pub returns-then-n-eq0 : goal.returns-then-n-eq0
unfolding named named_to
returns-then-n-eq0 c =
    simp (sym c.name_run-run.ensures.0, le-ltb _ _ c.if-n-gt8.false, lt-leb _ _ c.if-text-e.false, eq-eqb _ _ c.if-n-eq0.true)

pub returns-then-closes : goal.returns-then-closes
unfolding named named_to
returns-then-closes c =
    let run = c.name_run-run.ensures in
    simp (sym run.0, le-ltb _ _ c.if-n-gt8.false, lt-leb _ _ c.if-text-e.false, ne_eqb _ _ c.if-n-eq0.false, sym c.closes.ensures ∙ c.if-closes.true, run.1 c.if-n-gt8.false)

pub returns-else-closes : goal.returns-else-closes
unfolding named named_to
returns-else-closes c =
    simp (sym c.name_run-run.ensures.0, le-ltb _ _ c.if-n-gt8.false, lt-leb _ _ c.if-text-e.false, ne_eqb _ _ c.if-n-eq0.false, sym c.closes.ensures ∙ c.if-closes.false)
