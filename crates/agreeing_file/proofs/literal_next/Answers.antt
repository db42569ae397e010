use mathlib.Core.Path.{refl, sym, ◌∙◌}
use native.Mathlib.Omega.{arith}
use Rattle.machine.specs.Tallies.{raised}
use Rattle.agreeing_file.specs.Matching.{pass_one}
use Rattle.laws.proofs.Tests.{not-both}
use Rattle.agreeing_file.proofs.Matching.{next-is, next_fits}
use Rattle.agreeing_file.proofs.literal_next.Goals as goal

pub overflow_add-passed : goal.overflow_add-passed
overflow_add-passed c =
    let can = c.requires in
    omega (arith, next_fits can _ (sym c.if-stands_at.true ∙ next-is _ _ _ _ _ (rw c.from.ensures at c.stands_at.ensures) c.part-run.ensures))

pub returns-then-stands_at : goal.returns-then-stands_at
unfolding pass_one raised
returns-then-stands_at c = (sym c.if-stands_at.true ∙ next-is _ _ _ _ _ (rw c.from.ensures at c.stands_at.ensures) c.part-run.ensures, λ e. refl)

pub returns-else-stands_at : goal.returns-else-stands_at
returns-else-stands_at c = (sym c.if-stands_at.false ∙ next-is _ _ _ _ _ (rw c.from.ensures at c.stands_at.ensures) c.part-run.ensures, λ e. not-both e refl)
