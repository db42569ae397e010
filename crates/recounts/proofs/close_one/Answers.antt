use Rattle.machine.proofs.Rewritten.{rest-bare, rest-mark}
use Rattle.recounts.proofs.close_one.Goals as goal

pub returns-then-trues-c-ne0 : goal.returns-then-trues-c-ne0
returns-then-trues-c-ne0 c = let a = c.args in rest-mark a.trues.now a.places.now a.c c.if-trues-c-ne0.true

pub returns-else-trues-c-ne0 : goal.returns-else-trues-c-ne0
returns-else-trues-c-ne0 c = rest-bare _ _ _ c.if-trues-c-ne0.false
