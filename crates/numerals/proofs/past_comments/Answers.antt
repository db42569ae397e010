-- `numerals::past_comments` meets its contract: where the lines passed so far lead is where all lead. Assumes nothing.
use native.Mathlib.Omega.{arith}
use Rattle.scan.specs.Scan.{is_of}
use Rattle.scan.specs.declared.Kind.TheVariants.{Rest}
use Rattle.scan.proofs.Laws.{past-le, past_ge}
use Rattle.numerals.proofs.Gaps.{none_passed, one_more, no_more, at-text-end}
use Rattle.numerals.proofs.past_comments.Goals as goal

pub loop-at-init : goal.loop-at-init
loop-at-init c = none_passed _

pub returns-then-text-at-ne99 : goal.returns-then-text-at-ne99
returns-then-text-at-ne99 c = no_more _ _ _ c.loop-at.invariant c.if-text-at-ne99.true

pub overflow_add-at : goal.overflow_add-at
overflow_add-at c =
    let text = c.args.text.now in
    let at = c.loop-at.at in
    omega (arith, c.line_end-at.ensures, past-le (is_of Rest) text at (omega (arith, c.loop-at-test.true)), c.requires)

pub loop-at-smaller : goal.loop-at-smaller
loop-at-smaller c =
    let text = c.args.text.now in
    let at = c.loop-at.at in
    omega (arith, c.line_end-at.ensures, past_ge (is_of Rest) text at, c.loop-at-test.true)

pub loop-at-preserved : goal.loop-at-preserved
loop-at-preserved c = one_more _ _ _ c.loop-at.invariant c.loop-at-test.true c.if-text-at-ne99.false c.line_end-at.ensures

pub returns : goal.returns
returns c = at-text-end _ _ _ c.loop-at.invariant c.loop-at-test.false
