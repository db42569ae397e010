-- `walking_steps::step` meets its contract: it is put together from its calls. Assumes nothing.
use borrow.Author.Rules.{rules}
use Rattle.walking_steps.proofs.Calls.{can-part, can-pick, can-plain, is_stuck_lem, can-flip, is-stepped}
use Rattle.walking_steps.proofs.step.Goals as goal

pub part-clause-requires : goal.part-clause-requires
part-clause-requires c = rw c.from.ensures (can-part _ _ _ _ _ _ c.requires.0 c.chosen_from-c.ensures)

pub least_in-least-requires : goal.least_in-least-requires
least_in-least-requires c =
    let h = c.requires.0 in
    let chosen = c.chosen_from-c.ensures in
    (can-pick _ _ _ _ _ _ h chosen (rw c.from.ensures at c.part-clause.ensures), can-plain _ _ _ _ _ _ h chosen (rw c.from.ensures at c.part-clause.ensures))

pub returns-then-least-eq0 : goal.returns-then-least-eq0
returns-then-least-eq0 c =
    is_stuck_lem _ _ _ _ _ _ c.requires.0 c.chosen_from-c.ensures (rw c.from.ensures at c.part-clause.ensures) c.least_in-least.ensures (λ i. search rules)
    c.if-least-eq0.true

pub literal_in-l-requires : goal.literal_in-l-requires
literal_in-l-requires c =
    let h = c.requires.0 in (
      can-pick _ _ _ _ _ _ h c.chosen_from-c.ensures (rw c.from.ensures at c.part-clause.ensures),
      c.least_in-least.ensures,
      c.if-least-eq0.false,
      can-plain _ _ _ _ _ _ h c.chosen_from-c.ensures (rw c.from.ensures at c.part-clause.ensures),
    )

pub flip_term-number-requires : goal.flip_term-number-requires
flip_term-number-requires c =
    rw c.from-2.ensures
    (can-flip _ _ _ _ _ _ c.requires.0 c.chosen_from-c.ensures (rw c.from.ensures at c.part-clause.ensures) c.least_in-least.ensures c.if-least-eq0.false c.literal_in-l.ensures)

pub returns : goal.returns
returns c =
    is-stepped _ _ _ _ _ _ c.requires.0 c.chosen_from-c.ensures (rw c.from.ensures at c.part-clause.ensures) c.least_in-least.ensures c.if-least-eq0.false
    c.literal_in-l.ensures (rw c.from-2.ensures at c.flip_term-number.ensures)
