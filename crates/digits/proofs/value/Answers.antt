-- `digits::value` meets its contract: each digit is counted after those before it. Assumes nothing.
use native.Mathlib.Omega.{arith}
use Rattle.digits.proofs.Digits.{none-counted, digit_low, counted-fits, one-counted}
use Rattle.digits.proofs.value.Goals as goal

pub loop-b-init : goal.loop-b-init
loop-b-init c = none-counted _

pub overflow_mul-n : goal.overflow_mul-n
overflow_mul-n c = omega (arith, counted-fits _ c.requires _ _ c.loop-b.invariant c.loop-b-test.true)

pub overflow_sub-b : goal.overflow_sub-b
overflow_sub-b c = digit_low _ c.requires _ c.loop-b-test.true

pub overflow_add-n : goal.overflow_add-n
overflow_add-n c = omega (arith, counted-fits _ c.requires _ _ c.loop-b.invariant c.loop-b-test.true, c.from.ensures)

pub loop-b-preserved : goal.loop-b-preserved
loop-b-preserved c = rw c.from.ensures (one-counted _ c.requires _ _ c.loop-b.invariant c.loop-b-test.true)
