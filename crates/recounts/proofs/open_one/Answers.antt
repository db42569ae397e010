use Rattle.machine.proofs.Scanned.{is_xor}
use Rattle.machine.proofs.Rewritten.{walk-bare, walk-mark}
use Rattle.machine.specs.Moving.{view}
use Rattle.recounts.proofs.open_one.Goals as goal

pub returns-then-trues-c-ne0 : goal.returns-then-trues-c-ne0
returns-then-trues-c-ne0 c =
    let a = c.args in
    walk-mark (view a.values.now a.starts.now a.literals.now) a.trues.now a.places.now a.c c.if-trues-c-ne0.true
    (is_xor _ _ c.part.ensures c.xor_true.ensures)

pub returns-else-trues-c-ne0 : goal.returns-else-trues-c-ne0
returns-else-trues-c-ne0 c = walk-bare _ _ _ _ c.if-trues-c-ne0.false
