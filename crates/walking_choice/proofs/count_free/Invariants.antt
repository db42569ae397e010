-- `walking_choice::count_free` meets its contract: how many of the literals so far are of free terms. Assumes nothing.
use Rattle.walking_choice.specs.Choosing.{is_free_in}
use Rattle.walking_choice.proofs.Among.{Counting}
use Rattle.walking_choice.proofs.count_free.Given as goal

abbrev pub invariant-loop-l : goal.invariant-loop-l
invariant-loop-l l = Counting (is_free_in l.marks) l.clause l.n l.l-index
