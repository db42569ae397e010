-- `numerals::digits_at` meets its contract: the digits so far are the word's first. Assumes nothing.
use native.Mathlib.Omega.{arith}
use Rattle.numerals.proofs.Runs.{none-run, one-run}
use Rattle.numerals.proofs.digits_at.Goals as goal

pub loop-i-init : goal.loop-i-init
loop-i-init c = (none-run _ _ c.requires.0, c.requires.1)

pub loop-i-preserved : goal.loop-i-preserved
loop-i-preserved c =
    let digit = c.if-not-is_ascii_digit.ensures.cases in
    (rw c.from.ensures (one-run _ _ c.requires.0 _ _ c.loop-i.invariant.0 digit.0 digit.1), omega (arith, c.loop-i-test.true))
