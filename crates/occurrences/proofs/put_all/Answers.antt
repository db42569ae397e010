use mathlib.Core.Path.{refl, ◌∙◌}
use Rattle.machine.proofs.Rewritten.{up_none, up_more}
use Rattle.occurrences.proofs.Filling.{clause-is}
use Rattle.occurrences.proofs.put_all.Goals as goal

pub loop-c-init : goal.loop-c-init
loop-c-init c = (up_none _ _, refl, refl)

pub loop-c-preserved : goal.loop-c-preserved
loop-c-preserved c =
    let inv = c.loop-c.invariant in (
      up_more _ _ _ _ _ inv.0 (clause-is _ _ _ _ _ c.part.ensures c.put_clause.ensures),
      c.put_clause.auto.occurrences ∙ inv.1,
      c.put_clause.auto.cursors ∙ inv.2,
    )
