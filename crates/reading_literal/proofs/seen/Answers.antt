-- `reading_literal::seen` meets its contract: each way out by what the stamp shows. Assumes nothing.
use mathlib.Core.Path.{sym, ◌∙◌}
use Rattle.written.specs.Clauses.{term_of}
use Rattle.reading_literal.proofs.Stamps.{stamp_before, stamp_after, stamp_of_another, stamp_same, stamp_opposite}
use Rattle.reading_literal.proofs.seen.Goals as goal

pub returns-then-p-from : goal.returns-then-p-from
returns-then-p-from c = stamp_before _ _ _ _ _ c.requires.0 _ _ (rw c.from-p.ensures at c.if-p-from.true)

pub returns-then-held-p : goal.returns-then-held-p
returns-then-held-p c = stamp_after _ _ _ _ _ c.requires.0 _ _ (rw c.from-p.ensures at c.if-held-p.true)

pub returns-then-l-term : goal.returns-then-l-term
unfolding term_of
returns-then-l-term c = stamp_of_another _ _ _ _ _ c.requires.0 _ _ (rw (c.from-l.ensures, c.from-p.ensures) at c.if-l-term.true)

pub returns-then-l-literal : goal.returns-then-l-literal
returns-then-l-literal c =
    let p = c.from-p.ensures in
    stamp_same _ _ _ _ _ c.requires.0 _ _ (rw p at c.if-p-from.false) (rw p at c.if-held-p.false)
    (rw (c.from-l.ensures, p) at (c.if-l-literal.true ∙ c.literal.ensures))

pub returns-else-l-literal : goal.returns-else-l-literal
unfolding term_of
returns-else-l-literal c =
    let p = c.from-p.ensures in
    stamp_opposite _ _ _ _ _ c.requires.0 _ _ (rw p at c.if-p-from.false) (rw p at c.if-held-p.false)
    (rw (c.from-l.ensures, p) at c.if-l-term.false)
    (λ e. c.if-l-literal.false (rw (c.from-l.ensures, p) (e ∙ sym c.literal.ensures)))
