-- `walking_steps::hold_all` meets its contract: the terms passed have the values of their marks. Assumes nothing.
use Rattle.walking_steps.proofs.Held.{Holding}
use Rattle.walking_steps.proofs.hold_all.Given as goal

abbrev pub invariant-loop-t : goal.invariant-loop-t
invariant-loop-t l = Holding l.marks l.n l.initial.values l.t l.values
