-- `draw::Generator::even` meets its contract: what is drawn so far, with the draws that are left, gives what the whole gives. Assumes nothing.
use mathlib.Core.Path.{sym, ap₂, ◌∙◌}
use Prim.Native.Nat.{◌-◌}
use native.Mathlib.Omega.{arith}
use borrow.Author.Tests.{ne_eqb}
use Rattle.draw.specs.Even.{even_from, even_of}
use Rattle.draw.proofs.Laws.{next-pos}
use Rattle.draw.proofs.Evens.{even-taken, even-again, even-last}
use Rattle.draw.proofs.Generator.even.Goals as goal

pub loop-init : goal.loop-init
unfolding even_of
loop-init c =
    let y = c.args.self.state in (
      omega (arith, next-pos y (omega (arith, c.if-self-eq0.false)), c.stepped-n.ensures),
      simp (ne_eqb _ _ c.if-self-eq0.false, ne_eqb _ _ c.if-m-eq0.false, c.stepped-n.ensures),
    )

pub returns-then-n-bound : goal.returns-then-n-bound
returns-then-n-bound c =
    c.given.ensures ∙ sym (even-taken (7 - c.loop.counter) _ c.loop.n c.if-n-bound.true) ∙ c.loop.invariant.1

pub loop-preserved : goal.loop-preserved
loop-preserved c =
    let left = 7 - c.loop.counter in (
      omega (arith, next-pos c.loop.n c.loop.invariant.0, c.stepped-n-in-loop.ensures),
      ap₂ (λ k n. even_from k c.args.m n) {y = left - 1} (omega arith) c.stepped-n-in-loop.ensures
          ∙ sym (even-again left _ c.loop.n (omega arith) c.if-n-bound.false) ∙ c.loop.invariant.1,
    )

pub returns : goal.returns
returns c = c.given-2.ensures ∙ sym (even-last (7 - c.loop.counter) _ c.loop.n (omega arith)) ∙ c.loop.invariant.1
