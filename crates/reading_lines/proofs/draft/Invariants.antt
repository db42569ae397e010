-- `reading_lines::draft` meets its contract: the loop goes on with a draft under way, and ends with the written reading. Assumes nothing.
use Rattle.written.specs.Limits.{narrow}
use Rattle.laws.proofs.Fuel.{left}
use Rattle.names.specs.Finding.{homes}
use Rattle.reading_lines.specs.Drafting.{desk}
use Rattle.reading_lines.proofs.Loop.{Underway}
use Rattle.reading_lines.proofs.draft.Given as goal

abbrev pub invariant-loop-q : goal.invariant-loop-q
invariant-loop-q l = Underway homes narrow l.text (desk l.initial.names l.initial.starts l.initial.literals l.initial.stamps l.initial.slots) (desk l.names l.starts l.literals l.stamps l.slots) l.c l.p

abbrev pub decreases-loop-q : goal.decreases-loop-q
decreases-loop-q l = left l.text l.c
