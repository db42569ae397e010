use mathlib.Core.Path.{◌≡◌}
use Prim.Native.Nat.{◌≤◌}
use lib.ListN.{length, take}
use Rattle.written.specs.Limits.{narrow}
use Rattle.machine.specs.Slots.{Indexed}
use Rattle.names.specs.Finding.{homes}
use Rattle.agreeing_file.proofs.names_new.Given as goal

abbrev pub invariant-loop-i : goal.invariant-loop-i
invariant-loop-i l = (l.i ≤ length l.names) × (length l.slots ≡ length l.initial.slots) × Indexed homes narrow.terms (take l.i l.names) l.slots
