-- `walking_choice::literal_in` meets its contract: each way out has the tests that lead there. Assumes nothing.
use Rattle.walking_choice.proofs.Choices.{picked-free, picked-heads, picked_tails}
use Rattle.walking_choice.proofs.Ties.{low-is, can-draw}
use Rattle.walking_choice.proofs.literal_in.Goals as goal

pub returns-then-least-eq0 : goal.returns-then-least-eq0
returns-then-least-eq0 c =
    let p = c.requires in
    picked-free _ _ _ _ (low-is _ _ _ p.1 p.2) c.if-least-eq0.true c.one_at.ensures

pub drawn_from-requires : goal.drawn_from-requires
drawn_from-requires c =
    let p = c.requires in
    (p.0.marks, can-draw _ _ _ _ p.1 p.2 p.0.short, p.3)

pub returns-then-d-eq1 : goal.returns-then-d-eq1
returns-then-d-eq1 c =
    let p = c.requires in
    picked-heads _ _ _ _ (low-is _ _ _ p.1 p.2) c.if-least-eq0.false c.heads-d.ensures c.if-d-eq1.true c.drawn_from.ensures

pub returns-else-d-eq1 : goal.returns-else-d-eq1
returns-else-d-eq1 c =
    let p = c.requires in
    picked_tails _ _ _ _ (low-is _ _ _ p.1 p.2) c.if-least-eq0.false c.heads-d.ensures c.if-d-eq1.false c.one_at-else-d-eq1.ensures
