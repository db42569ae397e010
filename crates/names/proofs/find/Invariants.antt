-- `names::find` meets its contract: the slots passed hold other names. Assumes nothing.
use Prim.Native.Nat.{◌+◌, ◌-◌}
use lib.ListN.{take}
use Rattle.names.specs.Finding.{homes}
use Rattle.machine.proofs.Slots.{Searched}
use Rattle.names.proofs.find.Given as goal

abbrev pub invariant-loop-terms : goal.invariant-loop-terms
invariant-loop-terms l = Searched homes (take l.terms l.names) l.slots l.name l.s

abbrev pub decreases-loop-terms : goal.decreases-loop-terms
decreases-loop-terms l = homes + l.terms - l.s
