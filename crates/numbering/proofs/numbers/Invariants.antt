-- `numbering::numbers` meets its contract: what is left of the numbers makes the whole reading. Assumes nothing.
use Rattle.written.specs.Limits.{narrow}
use Rattle.laws.proofs.Fuel.{left}
use Rattle.numbering.specs.Counting.{count}
use Rattle.numbering.proofs.Loop.{Underway}
use Rattle.numbering.proofs.numbers.Given as goal

abbrev pub invariant-loop-q : goal.invariant-loop-q
invariant-loop-q l = Underway narrow l.text l.h l.line (count l.initial.starts l.initial.literals l.initial.stamps) (count l.starts l.literals l.stamps) l.c l.g

abbrev pub decreases-loop-q : goal.decreases-loop-q
decreases-loop-q l = left l.text l.c
