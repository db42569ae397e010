-- `walking_choice::least_in` meets its contract: what the literals so far give, and one more each turn. Assumes nothing.
use Rattle.walking_choice.specs.Choosing.{break_in, is_free_in, lowest}
use Rattle.walking_choice.proofs.LeastBreaks.{Looking}
use Rattle.walking_choice.proofs.least_in.Given as goal

abbrev pub invariant-loop-l : goal.invariant-loop-l
invariant-loop-l l = Looking 65536 (break_in l.breaks) (is_free_in l.marks) l.clause (lowest l.s.low l.s.number l.s.first) l.l-index
