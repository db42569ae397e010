-- `numbering::at_numbers_end` meets its contract: each way out by the tests that lead there. Assumes nothing.
use mathlib.Core.Path.{refl, ap, sym, ◌∙◌}
use borrow.Author.Tests.{eq-eqb, ne_eqb, lt-ltb, le-ltb}
use Rattle.std.proofs.Common.{Result, Err}
use Rattle.written.specs.declared.Fault.{Fault}
use Rattle.reading_lines.specs.declared.Next.{Next}
use Rattle.numbering.specs.declared.Pass.TheVariants as P
use Rattle.numbering.specs.Passes.{pass_of, after_numbers}
use Rattle.numbering.proofs.at_numbers_end.Goals as goal

pub returns-then-g : goal.returns-then-g
unfolding after_numbers
returns-then-g c = ap P.Refused c.fault_at.ensures ∙ sym (rw c.if-g.true refl)

pub returns-then-p : goal.returns-then-p
unfolding after_numbers
returns-then-p c = ap P.Refused c.fault_at-then-p.ensures ∙ sym (rw (c.if-g.false, ne_eqb _ _ c.if-p.true) refl)

pub returns-then-g-h : goal.returns-then-g-h
unfolding after_numbers
returns-then-g-h c =
    ap P.Refused c.fault_at-then-g-h.ensures ∙ sym (rw (c.if-g.false, eq-eqb _ _ c.if-p.false, lt-ltb _ _ c.if-g-h.true) refl)

pub returns : goal.returns
unfolding after_numbers
returns c =
    c.turned.ensures ∙ ap (λ (n : Result Next Fault). pass_of n 0) c.at_text_end.ensures
    ∙ sym (rw (c.if-g.false, eq-eqb _ _ c.if-p.false, le-ltb _ _ c.if-g-h.false) refl)
