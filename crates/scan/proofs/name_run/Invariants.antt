-- `scan::name_run` meets its contract: the run from i ends where the run from s does, and what lies between is packed. Assumes nothing.
use Prim.Native.Nat.{◌-◌, ◌≤◌, max}
use mathlib.Core.Path.{◌≡◌}
use lib.ListN.{length, drop}
use Rattle.scan.specs.declared.Kind.TheVariants.{Name}
use Rattle.scan.specs.Scan.{is_of, past}
use Rattle.scan.proofs.Packing.{Packing}
use Rattle.scan.proofs.name_run.Given as goal

abbrev pub invariant-loop-i : goal.invariant-loop-i
invariant-loop-i l = (l.i ≤ max l.s (length l.text)) × (past (is_of Name) l.text l.i ≡ past (is_of Name) l.text l.s) × Packing 8 (drop l.s l.text) (l.i - l.s) l.name l.weight
