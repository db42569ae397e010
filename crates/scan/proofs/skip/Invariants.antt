-- `scan::skip` meets its contract: the run from i ends where the run from `at` does. Assumes nothing.
use Prim.Native.Nat.{◌≤◌, max}
use mathlib.Core.Path.{◌≡◌}
use lib.ListN.{length}
use Rattle.scan.specs.Scan.{is_of, past}
use Rattle.scan.proofs.skip.Given as goal

abbrev pub invariant-loop-i : goal.invariant-loop-i
invariant-loop-i l = (l.i ≤ max l.at (length l.text)) × (past (is_of l.k) l.text l.i ≡ past (is_of l.k) l.text l.at)
