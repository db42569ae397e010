-- `numbering::put_names` meets its contract: the names put so far stand over what was there. Assumes nothing.
use mathlib.Core.Path.{◌≡◌}
use lib.ListN.{length}
use Rattle.written.specs.Tables.{over}
use Rattle.written.specs.Numbered.{names_to}
use Rattle.numbering.proofs.put_names.Given as goal

abbrev pub invariant-loop-k : goal.invariant-loop-k
invariant-loop-k l = (l.names ≡ over (names_to l.k) l.initial.names) × (length l.names ≡ length l.initial.names)
