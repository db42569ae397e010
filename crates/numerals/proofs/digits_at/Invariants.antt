-- `numerals::digits_at` meets its contract: the digits so far are the word's first. Assumes nothing.
use Prim.Native.Nat.{◌≤◌}
use Rattle.numerals.specs.Numbers.{Run}
use Rattle.numerals.proofs.digits_at.Given as goal

abbrev pub invariant-loop-i : goal.invariant-loop-i
invariant-loop-i l = Run l.text l.from l.i l.number × (l.i ≤ l.stop)
