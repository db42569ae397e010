-- `numerals::past_comments` meets its contract: where the lines passed so far lead is where all lead. Assumes nothing.
use Prim.Native.Nat.{◌-◌}
use lib.ListN.{length}
use Rattle.numerals.proofs.Gaps.{Passing}
use Rattle.numerals.proofs.past_comments.Given as goal

abbrev pub invariant-loop-at : goal.invariant-loop-at
invariant-loop-at l = Passing l.text l.at l.line

abbrev pub decreases-loop-at : goal.decreases-loop-at
decreases-loop-at l = length l.text - l.at
