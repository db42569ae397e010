-- `walking_choice::nth_at` meets its contract: the literals that are to be passed yet lead to it. Assumes nothing.
use Prim.Native.Nat.{◌<◌}
use Rattle.walking_choice.specs.Choosing.{is_tie}
use Rattle.walking_choice.proofs.Among.{GoingTo}
use Rattle.walking_choice.proofs.nth_at.Given as goal

abbrev pub invariant-loop-l : goal.invariant-loop-l
invariant-loop-l l = GoingTo (is_tie l.breaks l.marks l.m) l.clause l.j l.left l.l-index × (0 < l.left)
