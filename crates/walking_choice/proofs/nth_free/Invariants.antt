-- `walking_choice::nth_free` meets its contract: the literals that are to be passed yet lead to it. Assumes nothing.
use Prim.Native.Nat.{◌<◌}
use Rattle.walking_choice.specs.Choosing.{is_free_in}
use Rattle.walking_choice.proofs.Among.{GoingTo}
use Rattle.walking_choice.proofs.nth_free.Given as goal

abbrev pub invariant-loop-l : goal.invariant-loop-l
invariant-loop-l l = GoingTo (is_free_in l.marks) l.clause l.j l.ahead l.l-index × (0 < l.ahead)
