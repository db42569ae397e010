-- `digits::value` meets its contract: each digit is counted after those before it. Assumes nothing.
use Rattle.digits.proofs.Digits.{Counted}
use Rattle.digits.proofs.value.Given as goal

abbrev pub invariant-loop-b : goal.invariant-loop-b
invariant-loop-b l = Counted l.digits l.b-index l.n
