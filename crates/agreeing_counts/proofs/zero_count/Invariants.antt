use mathlib.Core.Path.{◌≡◌}
use Prim.Native.Nat.{◌+◌, ◌≤◌}
use lib.ListN.{drop}
use Rattle.machine.specs.Tested.{count_of}
use Rattle.agreeing_counts.proofs.zero_count.Given as goal

abbrev pub invariant-loop-count : goal.invariant-loop-count
invariant-loop-count l = (l.zeros ≤ l.count-index) × (l.zeros + count_of 0 (drop l.count-index l.counts) ≡ count_of 0 l.counts)
